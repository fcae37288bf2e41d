-- What the clean file states, an undamaged text states: one induction over how the capture stands for the text.
-- While the base is known, it is the same on both sides; while it is not, nothing is placed on this side.
-- Assumes nothing.
use Prim.Native.Nat.{ℕ, suc}
use mathlib.Core.Path.{◌≡◌, refl, sym, ap, ◌∙◌}
use mathlib.Core.Logic.{◌≢◌}
use native.Mathlib.Omega.{arith}
use mathlib.Core.Bool.{Bool, true, false, ◌&&◌}
use mathlib.Core.Option.{none, some}
use mathlib.Core.List.{List, [], ◌∷◌, ◌++◌, map, nil≢cons, Memᴰ}
use Rattle.digits.specs.Common.{Every}
use Rattle.std.specs.Prelude.{if◌then◌else◌}
use Rattle.record.specs.Refusals.{Refusal}
use Rattle.record.specs.Line.{Said, says, wrong, judge}
use Rattle.record.specs.Meaning.{Meaning, data_at, end_of_file, extended_segment, start_segment, extended_linear, start_linear, meaning}
use Rattle.reader.specs.Row.{on, sayings, is_end, stops, through_stop}
use Rattle.reader.specs.Text.{default_options}
use Rattle.intel.specs.Lines.{said_record}
use Rattle.steps.specs.Steps.{Placement, step, stated}
use Rattle.steps.specs.Source.{steps}
use Rattle.intel.specs.Placing.{Base, segment, linear, placed, stated_by, base_behind, does, act, base_after, intel_by, intel}
use Rattle.salvage.specs.Salvage.{fate_of, fate, still_known, known_behind, of, sorted, past_refusals, records}
use Rattle.salvage.specs.Fates.{Says, Refused, GoesOn}
use Rattle.salvage.specs.Standing.{Stands, broken_off, same, respelt, damaged, ended, gained, lost, Among, none, this, over}
use Rattle.salvage.specs.Claims.{all_stated}
use Rattle.salvage.proofs.Fates.{empty_says, said_so, is_the_end, is_no_end, not_end}

-- ---- among

among_both : {A : Type 0} (zs : List A) {xs ys : List A} → Among xs ys → Among (zs ++ xs) (zs ++ ys)
among_both [] h = h
among_both (z ∷ zs) h = this (among_both zs h)

among_over : {A : Type 0} (zs : List A) {xs ys : List A} → Among xs ys → Among xs (zs ++ ys)
among_over [] h = h
among_over (z ∷ zs) h = over z (among_over zs h)

-- ---- lines

-- the first line says a record
pub said_case : (P : Said → Type 0) (s : Said) (m : Meaning) → said_record s ≡ some m
    → ((kind address : ℕ) (payload : List ℕ) → meaning kind address payload ≡ m → P (says kind address payload)) → P s
unfolding said_record
said_case P (says kind address payload) m e f = f kind address payload (cc)
said_case P (wrong r) m e f = absurd (let z : ◌≡◌ {A = ℕ} 0 1 = cc in omega arith)

-- the records that are kept of captured lines
abbrev pub keeps : (known : Bool) (n : ℕ) → List (List ℕ) → List Meaning
keeps known n ls = records (sorted known (through_stop past_refusals (sayings n ls)))

pub keeps_record : (known : Bool) (n : ℕ) (l : List ℕ) (ls : List (List ℕ)) (m : Meaning) → Says l m
    → keeps known n (l ∷ ls) ≡ records (of n (fate_of known m) ∷ sorted (still_known known m) (if is_end m && true then [] else through_stop past_refusals (sayings (suc n) ls)))
unfolding sorted through_stop sayings stops fate known_behind
keeps_record known n [] ls m h = absurd (empty_says m h)
keeps_record known n (c ∷ l) ls m h =
    said_case (λ s. records (sorted known (through_stop past_refusals (on n s ∷ sayings (suc n) ls)))
    ≡ records (of n (fate_of known m) ∷ sorted (still_known known m) (if is_end m && true then [] else through_stop past_refusals (sayings (suc n) ls))))
    (judge (c ∷ l)) m h (λ kind address payload e. rw e)

pub keeps_refused : (known : Bool) (n : ℕ) (l : List ℕ) (ls : List (List ℕ)) (r : Refusal) → Refused l r → keeps known n (l ∷ ls) ≡ keeps false (suc n) ls
unfolding sorted through_stop sayings stops fate known_behind records
keeps_refused known n [] ls r h = absurd (h.has_byte refl)
keeps_refused known n (c ∷ l) ls r h = rw h.judged

-- what the lines of a text state
abbrev pub tells : Base → (n : ℕ) → List (List ℕ) → List Placement
tells base n us = stated (steps intel base n us)

abbrev pub Unrefused : (n : ℕ) → List (List ℕ) → Type 0
Unrefused n us = (k : ℕ) (r : Refusal) → ¬ Memᴰ (on k (wrong r)) (through_stop default_options (sayings n us))

tells_record : (base : Base) (n : ℕ) (u : List ℕ) (us : List (List ℕ)) (m : Meaning) → Says u m → m ≢ end_of_file
    → tells base n (u ∷ us) ≡ stated_by base m ++ tells (base_behind base m) (suc n) us
unfolding steps intel_by act base_after does stated stated_by base_behind
tells_record base n [] us m h ne = absurd (empty_says m h)
tells_record base n (c ∷ u) us m h ne =
    said_case (λ s. stated (map (step n) (act base s) ++ steps intel (base_after base s) (suc n) us) ≡ stated_by base m ++ tells (base_behind base m) (suc n) us)
    (judge (c ∷ u)) m h (λ kind address payload e. rw e (go m ne))
  where
    go : (m : Meaning) → m ≢ end_of_file
        → stated (map (step n) (does base m) ++ steps intel (base_behind base m) (suc n) us)
        ≡ stated_by base m ++ tells (base_behind base m) (suc n) us
    go (data_at offset bytes) ne = refl
    go end_of_file ne = absurd (ne refl)
    go (extended_segment x) ne = refl
    go (start_segment cs ip) ne = refl
    go (extended_linear x) ne = refl
    go (start_linear x) ne = refl

tells_end : (base : Base) (n : ℕ) (u : List ℕ) (us : List (List ℕ)) → Says u end_of_file → tells base n (u ∷ us) ≡ []
unfolding steps intel_by act base_after does stated
tells_end base n [] us h = absurd (empty_says end_of_file h)
tells_end base n (c ∷ u) us h =
    said_case (λ s. stated (map (step n) (act base s) ++ steps intel (base_after base s) (suc n) us) ≡ [])
    (judge (c ∷ u)) end_of_file h (λ kind address payload e. rw e)

pub unrefused_behind : (n : ℕ) (u : List ℕ) (us : List (List ℕ)) (m : Meaning) → Says u m → m ≢ end_of_file → Unrefused n (u ∷ us) → Unrefused (suc n) us
unfolding sayings through_stop stops
unrefused_behind n [] us m h ne f = absurd (empty_says m h)
unrefused_behind n (c ∷ u) us m h ne f =
    said_case (λ s. ((k : ℕ) (r : Refusal) → ¬ Memᴰ (on k (wrong r)) (through_stop default_options (on n s ∷ sayings (suc n) us))) → Unrefused (suc n) us)
    (judge (c ∷ u)) m h
    (λ kind address payload e f k r q. f k r (Memᴰ.tail (rw (e, not_end m ne) q)))
    f

pub unrefused_not : (n : ℕ) (u : List ℕ) (us : List (List ℕ)) (r : Refusal) → Refused u r → ¬ Unrefused n (u ∷ us)
unfolding sayings through_stop
unrefused_not n [] us r h f = h.has_byte refl
unrefused_not n (c ∷ u) us r h f = f n r (Memᴰ.head (rw h.judged))

-- ---- the induction

-- what is kept of captured lines is among what the undamaged lines state, from any bases that are the same while the base is known
abbrev pub StatedThere : (ls us : List (List ℕ)) → Type 0
StatedThere ls us =
    (known : Bool) (n k : ℕ) (b b' : Base) → (known ≡ true → b ≡ b') → Unrefused k us → Among (all_stated b (keeps known n ls)) (tells b' k us)

-- lines that say the same record
said_both : (l u : List ℕ) (ls us : List (List ℕ)) (m : Meaning) → Says l m → Says u m → StatedThere ls us → StatedThere (l ∷ ls) (u ∷ us)
unfolding records all_stated fate_of still_known is_end stated_by base_behind
said_both l u ls us (data_at offset bytes) h h' ih true n k b b' e f =
    rw (keeps_record true n l ls _ h, tells_record b' k u us _ h' (λ q. let z : ◌≡◌ {A = ℕ} 0 1 = cc in omega arith), e refl)
    (among_both (placed b' offset 0 bytes) (ih true (suc n) (suc k) b' b' (λ _. refl) (unrefused_behind k u us _ h' (λ q. let z : ◌≡◌ {A = ℕ} 0 1 = cc in omega arith) f)))
said_both l u ls us (data_at offset bytes) h h' ih false n k b b' e f =
    rw (keeps_record false n l ls _ h, tells_record b' k u us _ h' (λ q. let z : ◌≡◌ {A = ℕ} 0 1 = cc in omega arith))
    (among_over (placed b' offset 0 bytes) (ih false (suc n) (suc k) b b' e (unrefused_behind k u us _ h' (λ q. let z : ◌≡◌ {A = ℕ} 0 1 = cc in omega arith) f)))
said_both l u ls us end_of_file h h' ih known n k b b' e f = rw (keeps_record known n l ls _ h) none
said_both l u ls us (extended_segment x) h h' ih known n k b b' e f =
    rw (keeps_record known n l ls _ h, tells_record b' k u us _ h' (λ q. let z : ◌≡◌ {A = ℕ} 0 1 = cc in omega arith))
    (ih true (suc n) (suc k) (segment x) (segment x) (λ _. refl) (unrefused_behind k u us _ h' (λ q. let z : ◌≡◌ {A = ℕ} 0 1 = cc in omega arith) f))
said_both l u ls us (start_segment cs ip) h h' ih known n k b b' e f =
    rw (keeps_record known n l ls _ h, tells_record b' k u us _ h' (λ q. let z : ◌≡◌ {A = ℕ} 0 1 = cc in omega arith))
    (ih known (suc n) (suc k) b b' e (unrefused_behind k u us _ h' (λ q. let z : ◌≡◌ {A = ℕ} 0 1 = cc in omega arith) f))
said_both l u ls us (extended_linear x) h h' ih known n k b b' e f =
    rw (keeps_record known n l ls _ h, tells_record b' k u us _ h' (λ q. let z : ◌≡◌ {A = ℕ} 0 1 = cc in omega arith))
    (ih true (suc n) (suc k) (linear x) (linear x) (λ _. refl) (unrefused_behind k u us _ h' (λ q. let z : ◌≡◌ {A = ℕ} 0 1 = cc in omega arith) f))
said_both l u ls us (start_linear x) h h' ih known n k b b' e f =
    rw (keeps_record known n l ls _ h, tells_record b' k u us _ h' (λ q. let z : ◌≡◌ {A = ℕ} 0 1 = cc in omega arith))
    (ih known (suc n) (suc k) b b' e (unrefused_behind k u us _ h' (λ q. let z : ◌≡◌ {A = ℕ} 0 1 = cc in omega arith) f))

-- the same line on both sides
line_both : (l : List ℕ) (ls us : List (List ℕ)) → StatedThere ls us → StatedThere (l ∷ ls) (l ∷ us)
unfolding sayings steps
line_both [] ls us ih known n k b b' e f = ih known (suc n) (suc k) b b' e f
line_both (c ∷ l) ls us ih known n k b b' e f = go (judge (c ∷ l)) refl
  where
    go : (s : Said) → judge (c ∷ l) ≡ s → Among (all_stated b (keeps known n ((c ∷ l) ∷ ls))) (tells b' k ((c ∷ l) ∷ us))
    go (says kind address payload) q =
        said_both (c ∷ l) (c ∷ l) ls us (meaning kind address payload) (said_so (c ∷ l) kind address payload q) (said_so (c ∷ l) kind address payload q) ih known n k b b' e f
    go (wrong r) q = absurd (unrefused_not k (c ∷ l) us r (record { has_byte = λ z. nil≢cons (sym z); judged = q }) f)

-- lines that were lost
over_gap : (ps : List Placement) (gap us : List (List ℕ)) → Every GoesOn gap
    → ((k : ℕ) (b : Base) → Unrefused k us → Among ps (tells b k us))
    → (k : ℕ) (b : Base) → Unrefused k (gap ++ us) → Among ps (tells b k (gap ++ us))
unfolding sayings steps
over_gap ps [] us g ih k b f = ih k b f
over_gap ps ([] ∷ gap) us (g, gs) ih k b f = over_gap ps gap us gs ih (suc k) b f
over_gap ps ((c ∷ u) ∷ gap) us (g, gs) ih k b f = go (judge (c ∷ u)) refl (over_gap ps gap us gs ih (suc k))
  where
    go : (s : Said) → judge (c ∷ u) ≡ s → ((b : Base) → Unrefused (suc k) (gap ++ us) → Among ps (tells b (suc k) (gap ++ us))) → Among ps (tells b k ((c ∷ u) ∷ (gap ++ us)))
    go (says kind address payload) q below =
        let m = meaning kind address payload in
        let h : Says (c ∷ u) m = said_so (c ∷ u) kind address payload q in
        let ne : m ≢ end_of_file = λ z. g (h ∙ ap some z) in
        rw (tells_record b k (c ∷ u) (gap ++ us) m h ne)
        (among_over (stated_by b m) (below (base_behind b m) (unrefused_behind k (c ∷ u) (gap ++ us) m h ne f)))
    go (wrong r) q below = absurd (unrefused_not k (c ∷ u) (gap ++ us) r (record { has_byte = λ z. nil≢cons (sym z); judged = q }) f)

pub stated_there : {ls us : List (List ℕ)} → Stands ls us → StatedThere ls us
unfolding sayings steps sorted through_stop records all_stated stated_by fate_of is_end
stated_there broken_off known n k b b' e f = none
stated_there (same {l = l} {ls = ls} {us = us} s) known n k b b' e f = line_both l ls us (λ known' n' k' c c' q g. stated_there s known' n' k' c c' q g) known n k b b' e f
stated_there (respelt {l = l} {u = u} {ls = ls} {us = us} m h h' s) known n k b b' e f = said_both l u ls us m h h' (λ known' n' k' c c' q g. stated_there s known' n' k' c c' q g) known n k b b' e f
stated_there (damaged {l = l} {ls = ls} {us = us} r gap h g s) known n k b b' e f =
    rw (keeps_refused known n l ls r h)
    (over_gap (all_stated b (keeps false (suc n) ls)) gap us g (λ k' b'' f'. stated_there s false (suc n) k' b b'' (λ q. cc) f') k b' f)
stated_there (ended {l = l} {ls = ls} h h') known n k b b' e f = rw (keeps_record known n l ls end_of_file h) none
stated_there (gained s) known n k b b' e f = stated_there s known (suc n) k b b' e f
stated_there (lost s) known n k b b' e f = stated_there s known n (suc k) b b' e f

-- ---- a text that is not damaged

-- all that it states is kept
pub all_stated_there : (ls : List (List ℕ)) (n k : ℕ) (b : Base) → Unrefused k ls → all_stated b (keeps true n ls) ≡ tells b k ls
unfolding sayings sorted through_stop records all_stated stated_by fate_of still_known is_end base_behind steps stated
all_stated_there [] n k b f = refl
all_stated_there ([] ∷ ls) n k b f = all_stated_there ls (suc n) (suc k) b f
all_stated_there ((c ∷ l) ∷ ls) n k b f = go (judge (c ∷ l)) refl (all_stated_there ls (suc n) (suc k))
  where
    Behind : Type 0
    Behind = (b : Base) → Unrefused (suc k) ls → all_stated b (keeps true (suc n) ls) ≡ tells b (suc k) ls

    of_record : (m : Meaning) → Says (c ∷ l) m → m ≢ end_of_file → Behind
        → all_stated b (records (of n (fate_of true m) ∷ sorted (still_known true m) (if is_end m && true then [] else through_stop past_refusals (sayings (suc n) ls))))
        ≡ stated_by b m ++ tells (base_behind b m) (suc k) ls
    of_record (data_at offset bytes) h ne below = ap (λ (ps : List Placement). placed b offset 0 bytes ++ ps) (below b (unrefused_behind k (c ∷ l) ls _ h ne f))
    of_record end_of_file h ne below = absurd (ne refl)
    of_record (extended_segment x) h ne below = below (segment x) (unrefused_behind k (c ∷ l) ls _ h ne f)
    of_record (start_segment cs ip) h ne below = below b (unrefused_behind k (c ∷ l) ls _ h ne f)
    of_record (extended_linear x) h ne below = below (linear x) (unrefused_behind k (c ∷ l) ls _ h ne f)
    of_record (start_linear x) h ne below = below b (unrefused_behind k (c ∷ l) ls _ h ne f)

    at_record : (m : Meaning) → Says (c ∷ l) m → Behind → (e : Bool) → is_end m ≡ e → all_stated b (keeps true n ((c ∷ l) ∷ ls)) ≡ tells b k ((c ∷ l) ∷ ls)
    at_record m h below true e =
        let w : Says (c ∷ l) end_of_file = h ∙ ap some (is_the_end m e) in
        ap (all_stated b) (keeps_record true n (c ∷ l) ls end_of_file w) ∙ sym (tells_end b k (c ∷ l) ls w)
    at_record m h below false e =
        let ne = is_no_end m e in
        ap (all_stated b) (keeps_record true n (c ∷ l) ls m h) ∙ of_record m h ne below ∙ sym (tells_record b k (c ∷ l) ls m h ne)

    go : (s : Said) → judge (c ∷ l) ≡ s → Behind → all_stated b (keeps true n ((c ∷ l) ∷ ls)) ≡ tells b k ((c ∷ l) ∷ ls)
    go (says kind address payload) q below =
        at_record (meaning kind address payload) (said_so (c ∷ l) kind address payload q) below (is_end (meaning kind address payload)) refl
    go (wrong r) q below = absurd (unrefused_not k (c ∷ l) ls r (record { has_byte = λ z. nil≢cons (sym z); judged = q }) f)
