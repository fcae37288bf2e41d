-- What becomes of each line: one walk over the lines, with what is known of the base after those that were passed (`Status`).
-- Assumes nothing.
use Prim.Native.Nat.{ℕ, suc, ◌+◌}
use mathlib.Core.Path.{◌≡◌, refl, sym, ap, ◌∙◌, subst}
use mathlib.Core.Logic.{◌≢◌, ◌⊎◌, inl, inr}
use native.Mathlib.Omega.{arith}
use mathlib.Core.Bool.{Bool, true, false}
use mathlib.Core.Option.{none, some}
use mathlib.Core.List.Memᴰ
use mathlib.Core.List.{List, [], ◌∷◌, ◌++◌, append_assoc, append-nil, nil≢cons, Memᴰ, tail-eq_of_cons-eq, head-eq_of_cons-eq}
use lib.ListN.{length, length-append}
use Rattle.digits.specs.Common.{Every}
use Rattle.std.specs.Prelude.{if◌then◌else◌}
use Rattle.record.specs.Refusals.{Refusal}
use Rattle.record.specs.Line.{Said, says, wrong, judge}
use Rattle.record.specs.Meaning.{Meaning, data_at, end_of_file, extended_segment, start_segment, extended_linear, start_linear, meaning}
use Rattle.reader.specs.Lines.{lines}
use Rattle.reader.specs.Row.{Numbered, on, sayings, is_end, stops, through_stop, row}
use Rattle.digits.proofs.Tests.{and_true}
use Rattle.intel.specs.Lines.{said_record}
use Rattle.salvage.specs.Salvage.{base_unknown, Fate, kept, dropped, fate_of, fate, still_known, known_behind, of, sorted, past_refusals, fates}
use Rattle.salvage.specs.Fates.{Says, Refused, SetsBase, Unknown, Becomes, not_a_record, data_lost, data_kept, other_kept, GoesOn, Fated}
use Rattle.salvage.specs.Claims.{FatesOfLines, OneFate}

-- ---- lists

pub every_snoc : {A : Type 0} (P : A → Type 0) (xs : List A) (x : A) → Every P xs → P x → Every P (xs ++ (x ∷ []))
every_snoc P [] x e p = (p, tt)
every_snoc P (y ∷ xs) x (q, e) p = (q, every_snoc P xs x e p)

snoc_last : {A : Type 0} (P : A → Type 0) (xs : List A) (x : A) → Every P (xs ++ (x ∷ [])) → Every P xs × P x
snoc_last P [] x (p, e) = (tt, p)
snoc_last P (y ∷ xs) x (q, e) = let (f, p) = snoc_last P xs x e in ((q, f), p)

-- where a list that ends in l is cut: at l, or before it
data Cut {A : Type 0} (ahead : List A) (l : A) (before : List A) (x : A) (after : List A) : Type 0 where
  at_last : x ≡ l → Cut ahead l before x after
  earlier : (mid : List A) → after ≡ mid ++ (l ∷ []) → ahead ≡ before ++ (x ∷ mid) → Cut ahead l before x after

cut : {A : Type 0} (ahead : List A) (l : A) (before : List A) (x : A) (after : List A) → ahead ++ (l ∷ []) ≡ before ++ (x ∷ after) → Cut ahead l before x after
cut [] l [] x after e = at_last (sym (head-eq_of_cons-eq e))
cut (a ∷ ahead) l [] x after e = earlier ahead (sym (tail-eq_of_cons-eq e)) (ap (λ y. y ∷ ahead) (head-eq_of_cons-eq e))
cut [] l (b ∷ before) x after e = absurd (go before (tail-eq_of_cons-eq e))
  where
    go : (bs : List _) → [] ≢ bs ++ (x ∷ after)
    go [] q = nil≢cons q
    go (b ∷ bs) q = nil≢cons q
cut (a ∷ ahead) l (b ∷ before) x after e = go (cut ahead l before x after (tail-eq_of_cons-eq e))
  where
    go : Cut ahead l before x after → Cut (a ∷ ahead) l (b ∷ before) x after
    go (at_last q) = at_last q
    go (earlier mid q w) = earlier mid q (cc (head-eq_of_cons-eq e))

-- ---- is the base known?

-- the base is known after these lines, or it is not
abbrev pub Status : Bool → List (List ℕ) → Type 0
Status true ahead = ¬ Unknown ahead
Status false ahead = Unknown ahead

-- after one line more it is unknown because of that line, or it was unknown before it
unknown_behind : (ahead : List (List ℕ)) (l : List ℕ) → Unknown (ahead ++ (l ∷ [])) → ((r : Refusal) × Refused l r) ⊎ (Unknown ahead × (¬ SetsBase l))
unknown_behind ahead l u = go (cut ahead l u.before u.line u.after u.whole)
  where
    go : Cut ahead l u.before u.line u.after → ((r : Refusal) × Refused l r) ⊎ (Unknown ahead × (¬ SetsBase l))
    go (at_last e) = inl (u.why, subst (λ (x : List ℕ). Refused x u.why) e u.damaged)
    go (earlier mid e w) =
        let (f, p) = snoc_last (λ (x : List ℕ). ¬ SetsBase x) mid l (subst (Every (λ (x : List ℕ). ¬ SetsBase x)) e u.unmended) in
        inr (record { before = u.before; line = u.line; after = mid; whole = w; why = u.why; damaged = u.damaged; unmended = f }, p)

still_unknown : (ahead : List (List ℕ)) (l : List ℕ) → Unknown ahead → ¬ SetsBase l → Unknown (ahead ++ (l ∷ []))
still_unknown ahead l u n =
    record {
      before = u.before;
      line = u.line;
      after = u.after ++ (l ∷ []);
      whole = ap (λ (x : List (List ℕ)). x ++ (l ∷ [])) u.whole ∙ append_assoc u.before (u.line ∷ u.after) (l ∷ []);
      why = u.why;
      damaged = u.damaged;
      unmended = every_snoc (λ (x : List ℕ). ¬ SetsBase x) u.after l u.unmended n;
    }

-- a line that is neither refused nor sets a base changes nothing
unchanged : (known : Bool) (ahead : List (List ℕ)) (l : List ℕ) → ((r : Refusal) → ¬ Refused l r) → ¬ SetsBase l → Status known ahead → Status known (ahead ++ (l ∷ []))
unchanged true ahead l nr ns s = λ u. go (unknown_behind ahead l u)
  where
    go : ((r : Refusal) × Refused l r) ⊎ (Unknown ahead × (¬ SetsBase l)) → ⊥
    go (inl (r, h)) = nr r h
    go (inr (u, n)) = s u
unchanged false ahead l nr ns s = still_unknown ahead l s ns

known_again : (ahead : List (List ℕ)) (l : List ℕ) → ((r : Refusal) → ¬ Refused l r) → SetsBase l → ¬ Unknown (ahead ++ (l ∷ []))
known_again ahead l nr y u = go (unknown_behind ahead l u)
  where
    go : ((r : Refusal) × Refused l r) ⊎ (Unknown ahead × (¬ SetsBase l)) → ⊥
    go (inl (r, h)) = nr r h
    go (inr (u, n)) = n y

-- ---- one line

pub empty_says : (m : Meaning) → ¬ Says [] m
unfolding said_record judge
empty_says m e = let z : ◌≡◌ {A = ℕ} 0 1 = cc in omega arith

empty_sets : ¬ SetsBase []
empty_sets (inl (n, e)) = empty_says (extended_segment n) e
empty_sets (inr (n, e)) = empty_says (extended_linear n) e

pub said_so : (l : List ℕ) (kind address : ℕ) (payload : List ℕ) → judge l ≡ says kind address payload → Says l (meaning kind address payload)
unfolding said_record
said_so l kind address payload e = ap said_record e

pub not_refused : (l : List ℕ) (m : Meaning) → Says l m → (r : Refusal) → ¬ Refused l r
unfolding said_record
not_refused l m e r h = let q : said_record (judge l) ≡ none = ap said_record h.judged in let z : ◌≡◌ {A = ℕ} 0 1 = cc in omega arith

-- a line of a record that sets no base
no_base : (l : List ℕ) (m : Meaning) → Says l m → ((n : ℕ) → m ≢ extended_segment n) → ((n : ℕ) → m ≢ extended_linear n) → ¬ SetsBase l
no_base l m e s t (inl (n, q)) = s n (cc)
no_base l m e s t (inr (n, q)) = t n (cc)

module _ (known : Bool) (ahead : List (List ℕ)) (st : Status known ahead) where
  blank_status : Status known (ahead ++ ([] ∷ []))
  blank_status = unchanged known ahead [] (λ r h. h.has_byte refl) empty_sets st

  record_status : (l : List ℕ) (m : Meaning) → Says l m → Status (still_known known m) (ahead ++ (l ∷ []))
  unfolding still_known
  record_status l (data_at offset bytes) e =
      unchanged known ahead l (not_refused l _ e) (no_base l _ e (λ n q. let z : ◌≡◌ {A = ℕ} 0 1 = cc in omega arith) (λ n q. let z : ◌≡◌ {A = ℕ} 0 1 = cc in omega arith)) st
  record_status l end_of_file e =
      unchanged known ahead l (not_refused l _ e) (no_base l _ e (λ n q. let z : ◌≡◌ {A = ℕ} 0 1 = cc in omega arith) (λ n q. let z : ◌≡◌ {A = ℕ} 0 1 = cc in omega arith)) st
  record_status l (extended_segment x) e = known_again ahead l (not_refused l _ e) (inl (x, e))
  record_status l (start_segment cs ip) e =
      unchanged known ahead l (not_refused l _ e) (no_base l _ e (λ n q. let z : ◌≡◌ {A = ℕ} 0 1 = cc in omega arith) (λ n q. let z : ◌≡◌ {A = ℕ} 0 1 = cc in omega arith)) st
  record_status l (extended_linear x) e = known_again ahead l (not_refused l _ e) (inr (x, e))
  record_status l (start_linear x) e =
      unchanged known ahead l (not_refused l _ e) (no_base l _ e (λ n q. let z : ◌≡◌ {A = ℕ} 0 1 = cc in omega arith) (λ n q. let z : ◌≡◌ {A = ℕ} 0 1 = cc in omega arith)) st

  status_behind : (c : ℕ) (l : List ℕ) (s : Said) → judge (c ∷ l) ≡ s → Status (known_behind known s) (ahead ++ ((c ∷ l) ∷ []))
  unfolding known_behind
  status_behind c l (says kind address payload) e = record_status (c ∷ l) (meaning kind address payload) (said_so (c ∷ l) kind address payload e)
  status_behind c l (wrong r) e =
      record { before = ahead; line = c ∷ l; after = []; whole = refl; why = r; damaged = record { has_byte = λ q. nil≢cons (sym q); judged = e }; unmended = tt }

  -- what becomes of the next line
  record_becomes : (l : List ℕ) (m : Meaning) → Says l m → Becomes ahead l (fate_of known m)
  unfolding fate_of
  record_becomes l (data_at offset bytes) e = go known st
    where
      go : (k : Bool) → Status k ahead → Becomes ahead l (if k then kept (data_at offset bytes) else dropped base_unknown)
      go true s = data_kept offset bytes e s
      go false s = data_lost offset bytes e s
  record_becomes l end_of_file e = other_kept end_of_file e (λ o b q. let z : ◌≡◌ {A = ℕ} 0 1 = cc in omega arith)
  record_becomes l (extended_segment x) e = other_kept (extended_segment x) e (λ o b q. let z : ◌≡◌ {A = ℕ} 0 1 = cc in omega arith)
  record_becomes l (start_segment cs ip) e = other_kept (start_segment cs ip) e (λ o b q. let z : ◌≡◌ {A = ℕ} 0 1 = cc in omega arith)
  record_becomes l (extended_linear x) e = other_kept (extended_linear x) e (λ o b q. let z : ◌≡◌ {A = ℕ} 0 1 = cc in omega arith)
  record_becomes l (start_linear x) e = other_kept (start_linear x) e (λ o b q. let z : ◌≡◌ {A = ℕ} 0 1 = cc in omega arith)

  line_becomes : (c : ℕ) (l : List ℕ) (s : Said) → judge (c ∷ l) ≡ s → Becomes ahead (c ∷ l) (fate known s)
  unfolding fate
  line_becomes c l (says kind address payload) e = record_becomes (c ∷ l) (meaning kind address payload) (said_so (c ∷ l) kind address payload e)
  line_becomes c l (wrong r) e = not_a_record r (record { has_byte = λ q. nil≢cons (sym q); judged = e })

-- nothing else becomes of a line
becomes_one : (ahead : List (List ℕ)) (l : List ℕ) {f g : Fate} → Becomes ahead l f → Becomes ahead l g → f ≡ g
unfolding said_record
becomes_one ahead l (not_a_record r h) (not_a_record r' h') = cc (h.judged, h'.judged)
becomes_one ahead l (not_a_record r h) (data_lost o b e u) = absurd (not_refused l _ e r h)
becomes_one ahead l (not_a_record r h) (data_kept o b e k) = absurd (not_refused l _ e r h)
becomes_one ahead l (not_a_record r h) (other_kept m e d) = absurd (not_refused l _ e r h)
becomes_one ahead l (data_lost o b e u) (not_a_record r h) = absurd (not_refused l _ e r h)
becomes_one ahead l (data_lost o b e u) (data_lost o' b' e' u') = refl
becomes_one ahead l (data_lost o b e u) (data_kept o' b' e' k) = absurd (k u)
becomes_one ahead l (data_lost o b e u) (other_kept m e' d) = absurd (d o b (cc))
becomes_one ahead l (data_kept o b e k) (not_a_record r h) = absurd (not_refused l _ e r h)
becomes_one ahead l (data_kept o b e k) (data_lost o' b' e' u) = absurd (k u)
becomes_one ahead l (data_kept o b e k) (data_kept o' b' e' k') = cc
becomes_one ahead l (data_kept o b e k) (other_kept m e' d) = absurd (d o b (cc))
becomes_one ahead l (other_kept m e d) (not_a_record r h) = absurd (not_refused l _ e r h)
becomes_one ahead l (other_kept m e d) (data_lost o b e' u) = absurd (d o b (cc))
becomes_one ahead l (other_kept m e d) (data_kept o b e' k) = absurd (d o b (cc))
becomes_one ahead l (other_kept m e d) (other_kept m' e' d') = cc

-- ---- the end record, told by the test

pub is_the_end : (m : Meaning) → is_end m ≡ true → m ≡ end_of_file
unfolding is_end
is_the_end (data_at offset bytes) e = cc
is_the_end end_of_file e = refl
is_the_end (extended_segment x) e = cc
is_the_end (start_segment cs ip) e = cc
is_the_end (extended_linear x) e = cc
is_the_end (start_linear x) e = cc

pub is_no_end : (m : Meaning) → is_end m ≡ false → m ≢ end_of_file
unfolding is_end
is_no_end m e q = let h : is_end m ≡ true = ap is_end q in let z : ◌≡◌ {A = ℕ} 0 1 = cc in omega arith

pub not_end : (m : Meaning) → m ≢ end_of_file → is_end m ≡ false
not_end m h = go (is_end m) refl
  where
    go : (b : Bool) → is_end m ≡ b → b ≡ false
    go true e = absurd (h (is_the_end m e))
    go false e = refl

goes_on : (l : List ℕ) (s : Said) → judge l ≡ s → stops past_refusals s ≡ false → GoesOn l
unfolding stops said_record
goes_on l (says kind address payload) e b q =
    let h : said_record (judge l) ≡ some (meaning kind address payload) = ap said_record e in
    is_no_end (meaning kind address payload) (sym (and_true (is_end (meaning kind address payload))) ∙ b) (cc)
goes_on l (wrong r) e b q = let h : said_record (judge l) ≡ none = ap said_record e in let z : ◌≡◌ {A = ℕ} 0 1 = cc in omega arith

pub stops_not : (l : List ℕ) (s : Said) → judge l ≡ s → GoesOn l → stops past_refusals s ≡ false
unfolding stops said_record
stops_not l (says kind address payload) e g =
    let m = meaning kind address payload in
    and_true (is_end m) ∙ not_end m (λ q. g (said_so l kind address payload e ∙ ap some q))
stops_not l (wrong r) e g = refl

-- ---- the walk

module _ (all : List (List ℕ)) (n : ℕ) (what : Fate) where
  walk : (ls ahead : List (List ℕ)) (known : Bool) (n₀ : ℕ) → all ≡ ahead ++ ls → n₀ ≡ suc (length ahead) → Status known ahead → Every GoesOn ahead
      → Memᴰ (of n what) (sorted known (through_stop past_refusals (sayings n₀ ls))) → Fated all n what
  unfolding sorted through_stop sayings
  walk [] ahead known n₀ w e st g m = absurd (Memᴰ.not-nil m)
  walk ([] ∷ ls) ahead known n₀ w e st g m =
      walk ls (ahead ++ ([] ∷ [])) known (suc n₀) (w ∙ sym (append_assoc ahead ([] ∷ []) ls)) (omega (arith, length-append ahead ([] ∷ [])))
      (blank_status known ahead st) (every_snoc GoesOn ahead [] g (empty_says end_of_file)) m
  walk ((c ∷ l) ∷ ls) ahead known n₀ w e st g m =
      go (judge (c ∷ l)) refl
      (λ k st' g'. walk ls (ahead ++ ((c ∷ l) ∷ [])) k (suc n₀) (w ∙ sym (append_assoc ahead ((c ∷ l) ∷ []) ls)) (omega (arith, length-append ahead ((c ∷ l) ∷ []))) st' (every_snoc GoesOn ahead (c ∷ l) g g'))
      m
    where
      row : List Numbered
      row = sayings (suc n₀) ls

      Below : Type 0
      Below = (k : Bool) → Status k (ahead ++ ((c ∷ l) ∷ [])) → GoesOn (c ∷ l) → Memᴰ (of n what) (sorted k (through_stop past_refusals row)) → Fated all n what

      further : (s : Said) → judge (c ∷ l) ≡ s → Below → (b : Bool) → stops past_refusals s ≡ b
          → Memᴰ (of n what) (sorted (known_behind known s) (if b then [] else through_stop past_refusals row)) → Fated all n what
      further s q below true h m = absurd (Memᴰ.not-nil m)
      further s q below false h m = below (known_behind known s) (status_behind known ahead st c l s q) (goes_on (c ∷ l) s q h) m

      go : (s : Said) → judge (c ∷ l) ≡ s → Below → Memᴰ (of n what) (sorted known (through_stop past_refusals (on n₀ s ∷ row))) → Fated all n what
      go s q below m = step (Memᴰ.cases_cons m)
        where
          step : (of n what ≡ of n₀ (fate known s)) ⊎ Memᴰ (of n what) (sorted (known_behind known s) (if stops past_refusals s then [] else through_stop past_refusals row)) → Fated all n what
          step (inl h) =
              let f : what ≡ fate known s = cc in
              record {
                ahead = ahead;
                line = c ∷ l;
                reached = record { behind = ls; whole = w; number = cc; come_to = g };
                becomes = rw f (line_becomes known ahead st c l s q);
              }
          step (inr m) = further s q below (stops past_refusals s) refl m

has_byte : {ahead : List (List ℕ)} {what : Fate} → ¬ Becomes ahead [] what
has_byte (not_a_record r h) = h.has_byte refl
has_byte (data_lost o b q u) = empty_says (data_at o b) q
has_byte (data_kept o b q k) = empty_says (data_at o b) q
has_byte (other_kept m q d) = empty_says m q

found : (mid ahead : List (List ℕ)) (known : Bool) (n₀ n : ℕ) (line : List ℕ) (behind : List (List ℕ)) (what : Fate) → n ≡ n₀ + length mid → Status known ahead → Every GoesOn mid
    → Becomes (ahead ++ mid) line what → Memᴰ (of n what) (sorted known (through_stop past_refusals (sayings n₀ (mid ++ (line ∷ behind)))))
unfolding sorted through_stop sayings
found [] ahead known n₀ n [] behind what e st g h = absurd (has_byte h)
found [] ahead known n₀ n (c ∷ l) behind what e st g h =
    let f : what ≡ fate known (judge (c ∷ l)) = becomes_one ahead (c ∷ l) (rw append-nil at h) (line_becomes known ahead st c l (judge (c ∷ l)) refl) in
    let k : n ≡ n₀ = omega arith in
    let q : of n what ≡ of n₀ (fate known (judge (c ∷ l))) = cc in
    Memᴰ.head q
found ([] ∷ mid) ahead known n₀ n line behind what e st (g, gs) h =
    found mid (ahead ++ ([] ∷ [])) known (suc n₀) n line behind what (omega arith) (blank_status known ahead st) gs (rw append_assoc h)
found ((c ∷ l) ∷ mid) ahead known n₀ n line behind what e st (g, gs) h =
    let s = judge (c ∷ l) in
    rw (stops_not (c ∷ l) s refl g)
    (Memᴰ.tail
    (found mid (ahead ++ ((c ∷ l) ∷ [])) (known_behind known s) (suc n₀) n line behind what (omega arith) (status_behind known ahead st c l s refl) gs (rw append_assoc h)))

known_at_first : ¬ Unknown []
known_at_first u = go u.before u.whole
  where
    go : (bs : List (List ℕ)) → [] ≢ bs ++ (u.line ∷ u.after)
    go [] q = nil≢cons q
    go (b ∷ bs) q = nil≢cons q

-- after any lines the base is known, or it is not
passed : (mid ahead : List (List ℕ)) (known : Bool) → Status known ahead → (k : Bool) × Status k (ahead ++ mid)
passed [] ahead known st = (known, rw append-nil st)
passed ([] ∷ mid) ahead known st = let (k, h) = passed mid (ahead ++ ([] ∷ [])) known (blank_status known ahead st) in (k, rw append_assoc at h)
passed ((c ∷ l) ∷ mid) ahead known st =
    let (k, h) = passed mid (ahead ++ ((c ∷ l) ∷ [])) (known_behind known (judge (c ∷ l))) (status_behind known ahead st c l (judge (c ∷ l)) refl) in
    (k, rw append_assoc at h)

-- so something becomes of each line that has a byte
pub has_fate : (ahead : List (List ℕ)) (l : List ℕ) → l ≢ [] → (what : Fate) × Becomes ahead l what
has_fate ahead [] ne = absurd (ne refl)
has_fate ahead (c ∷ l) ne = let (k, h) = passed ahead [] true known_at_first in (fate k (judge (c ∷ l)), line_becomes k ahead h c l (judge (c ∷ l)) refl)

pub fates_of_lines : FatesOfLines
unfolding fates row
fates_of_lines text n what = (
  walk (lines text) n what (lines text) [] true 1 refl refl known_at_first tt,
  λ f. let r = f.reached in
      rw r.whole (found f.ahead [] true 1 n f.line r.behind what (omega (arith, r.number)) known_at_first r.come_to f.becomes),
)

same_cut : {A : Type 0} (a a' : List A) (l l' : A) (b b' : List A) → a ++ (l ∷ b) ≡ a' ++ (l' ∷ b') → length a ≡ length a' → (a ≡ a') × (l ≡ l')
same_cut [] [] l l' b b' e h = (refl, head-eq_of_cons-eq e)
same_cut [] (x ∷ a') l l' b b' e h = absurd (omega arith)
same_cut (x ∷ a) [] l l' b b' e h = absurd (omega arith)
same_cut (x ∷ a) (y ∷ a') l l' b b' e h =
    let (p, q) = same_cut a a' l l' b b' (tail-eq_of_cons-eq e) (omega arith) in
    (cc (head-eq_of_cons-eq e), q)

pub one_fate : OneFate
one_fate text n what what' f g =
    let (p, q) = same_cut f.ahead g.ahead f.line g.line f.reached.behind g.reached.behind (sym f.reached.whole ∙ g.reached.whole) (omega (arith, f.reached.number, g.reached.number)) in
    becomes_one g.ahead g.line (rw (p, q) at f.becomes) g.becomes
