-- The claims on texts: a call answers the first that is left and leaves the rest, so calls are given what the lines say, by one induction
-- over the calls; lines are joined and numbered by induction over the text, cut at its first line.
-- Assumes nothing.
use Rattle.std.proofs.Common.{◌≡◌, ℕ, zero, suc, ◌+◌, ◌^◌, ◌<◌, ◌≤◌, Bool, true, false, eqb, ◌≢◌, ◌⊎◌, List, [], ◌∷◌, ◌++◌, length, sym, refl, ap, ap₂, ◌∙◌, subst, inl, inr, add-zero, add-suc, suc-add, arith}
use mathlib.Core.List.{nil≢cons, Memᴰ}
use Rattle.std.specs.Prelude.{if◌then◌else◌}
use Rattle.record.specs.Line.{Said, judge}
use Rattle.digits.proofs.Tests.{both_ways}
use Rattle.reader.specs.declared.ReaderOptions.{ReaderOptions}
use Rattle.reader.specs.declared.State.{State}
use Rattle.reader.specs.Told.{Told, done}
use Rattle.reader.specs.Answer.{answered}
use Rattle.reader.specs.Lines.{LF, Cut, Joins, nothing, more, rest, lines, later}
use Rattle.reader.specs.Row.{Numbered, on, sayings, stops, through_stop, row}
use Rattle.reader.specs.Text.{is_full, ends_row, new_state, Outcome, outcome}
use Rattle.reader.specs.Calls.{Call, Given, NeverFull, Calls, no_more, one_more, given_for, replies, one_by_one}
use Rattle.reader.specs.Claims.{LinesJoin, FirstLineUnique, Rows, InOrder, Bounded, NumbersAreLines}
use Rattle.reader.proofs.Cutting.{cut, cut_unique, lines_cons}
use Rattle.reader.proofs.Feeds.{rest_shorter}
use Rattle.reader.proofs.Reading.{full_keeps}
use Rattle.reader.specs.Along.{unread, Countable}
use Rattle.reader.proofs.Along.{heard, ended}
use Rattle.reader.proofs.Room.{ends_stops}

-- ---- rows

-- no more lines than bytes
pub lines_few : (text : List ℕ) → (length (lines text) ≤ length text) × (length (later text) ≤ length text)
unfolding lines
lines_few [] = (omega arith, omega arith)
lines_few (c ∷ text) =
    let i = lines_few text in
    both_ways (λ b. (suc (length (if b then lines text else later text)) ≤ length (c ∷ text)) × (length (if b then lines text else later text) ≤ length (c ∷ text))) (eqb c LF)
    (omega (arith, i.0), omega (arith, i.0)) (omega (arith, i.1), omega (arith, i.1))

-- a stop that is reached leaves nothing behind it
pub cut_behind : (options : ReaderOptions) (b : Bool) (left : List Numbered) → (if b then [] else through_stop options left) ≡ through_stop options (if b then [] else left)
unfolding through_stop
cut_behind options true left = refl
cut_behind options false left = refl

-- what calls are given by their outcomes alone
abbrev pub got : Outcome → Given
got o = record { told = o.told; pool = o.pool; line = o.state.line }

unfoldable pub outcomes : (text : List ℕ) → State → List Call → List Given
outcomes text s [] = []
outcomes text s (call ∷ calls) = let o = outcome s text call.pool call.at in got o ∷ outcomes text o.state calls

module _ (text : List ℕ) where
  -- a call that meets its contract is given what its outcome says
  of_calls : (s : State) (calls : List Call) (givens : List Given) → Calls text s calls givens → givens ≡ outcomes text s calls
  unfolding outcomes
  of_calls s [] givens no_more = refl
  of_calls s (call ∷ calls) givens (one_more {givens = later-givens} r pool' meets later-calls) =
      let i = of_calls r.state calls later-givens later-calls in
      let a = meets.answer in let p = meets.left in let t = meets.state in cc

  -- a call that is told the same, of the same pool and line, is given the same
  same_given : {a b : Told} {p q : List ℕ} {l m : ℕ} → a ≡ b → p ≡ q → l ≡ m
      → ◌≡◌ {A = Given} (record { told = a; pool = p; line = l }) (record { told = b; pool = q; line = m })
  same_given t p l = cc

  -- calls from a state that has this left to read
  rows_from : (s : State) (left : List Numbered) (calls : List Call) → unread s text ≡ left → Countable s text → outcomes text s calls ≡ replies s.options s.line left calls
  unfolding replies outcomes
  rows_from s [] [] u k = refl
  rows_from s (on n said ∷ left) [] u k = refl
  rows_from s [] (call ∷ calls) u k =
      let e = ended s text call.pool call.at k u in
      let i = rows_from (outcome s text call.pool call.at).state [] calls e.left e.countable in
      ap₂ (λ (g : Given) (gs : List Given). g ∷ gs) (same_given e.tells e.untouched e.line)
      (i ∙ ap₂ (λ (o : ReaderOptions) (l : ℕ). replies o l [] calls) e.options e.line)
  rows_from s (on n said ∷ left) (call ∷ calls) u k =
      go (is_full (answered said (length call.pool) call.at)) refl (λ l v w. rows_from (outcome s text call.pool call.at).state l calls v w)
    where
      s' : State
      s' = (outcome s text call.pool call.at).state

      go : (b : Bool) → is_full (answered said (length call.pool) call.at) ≡ b
          → ((l : List Numbered) → unread s' text ≡ l → Countable s' text → outcomes text s' calls ≡ replies s'.options s'.line l calls)
          → got (outcome s text call.pool call.at) ∷ outcomes text s' calls
          ≡ (if b
          then record { told = answered said (length call.pool) call.at; pool = call.pool; line = s.line } ∷ replies s.options s.line (on n said ∷ left) calls
          else given_for (on n said) call ∷ replies s.options n (if ends_row s.options (answered said (length call.pool) call.at) then [] else left) calls)
      go true f again =
          let h = heard s text call.pool call.at k n said left u in
          let q : s' ≡ s = h.full f in
          let i = again (on n said ∷ left) (ap (λ (x : State). unread x text) q ∙ u) (subst (λ (x : State). Countable x text) (sym q) k) in
          let t = h.tells in let p = h.poured_in ∙ full_keeps said call.pool call.at f in
          cc
      go false f again =
          let h = heard s text call.pool call.at k n said left u in
          let i = again (if ends_row s.options (answered said (length call.pool) call.at) then [] else left) (h.left f) h.countable in
          let o = h.options in let l = h.line f in let t = h.tells in let p = h.poured_in in
          cc

new_left : (options : ReaderOptions) (text : List ℕ) → unread (new_state options) text ≡ sayings 1 (lines text)
unfolding unread
new_left options text = refl

-- what the lines of a text say, whatever calls there are
pub says_row : (options : ReaderOptions) (text : List ℕ) → length text < 2 ^ 64 → (calls : List Call) → outcomes text (new_state options) calls ≡ replies options 0 (sayings 1 (lines text)) calls
says_row options text small calls = rows_from text (new_state options) (sayings 1 (lines text)) calls (new_left options text) (omega (arith, (lines_few text).0))

pub rows : Rows
rows options text small calls givens c = of_calls text (new_state options) calls givens c ∙ says_row options text small calls

-- ---- with room

room_replies : (options : ReaderOptions) (last : ℕ) (left : List Numbered) (calls : List Call)
    → NeverFull (replies options last left calls) → replies options last left calls ≡ one_by_one last (through_stop options left) calls
unfolding replies one_by_one through_stop
room_replies options last [] [] r = refl
room_replies options last (on n said ∷ left) [] r = refl
room_replies options last [] (call ∷ calls) (h, r) = ap (λ (l : List Given). record { told = done; pool = call.pool; line = last } ∷ l) (room_replies options last [] calls r)
room_replies options last (on n said ∷ left) (call ∷ calls) r =
    full_or_not (is_full (answered said (length call.pool) call.at)) refl r
    (λ q. room_replies options n [] calls q) (λ q. room_replies options n left calls q)
  where
    stop_or_not : (b : Bool) → NeverFull (replies options n (if b then [] else left) calls)
        → (NeverFull (replies options n [] calls) → replies options n [] calls ≡ one_by_one n [] calls)
        → (NeverFull (replies options n left calls) → replies options n left calls ≡ one_by_one n (through_stop options left) calls)
        → replies options n (if b then [] else left) calls ≡ one_by_one n (if b then [] else through_stop options left) calls
    stop_or_not true r x y = x r
    stop_or_not false r x y = y r

    full_or_not : (b : Bool) → is_full (answered said (length call.pool) call.at) ≡ b
        → NeverFull
        (if b
        then record { told = answered said (length call.pool) call.at; pool = call.pool; line = last } ∷ replies options last (on n said ∷ left) calls
        else given_for (on n said) call ∷ replies options n (if ends_row options (answered said (length call.pool) call.at) then [] else left) calls)
        → (NeverFull (replies options n [] calls) → replies options n [] calls ≡ one_by_one n [] calls)
        → (NeverFull (replies options n left calls) → replies options n left calls ≡ one_by_one n (through_stop options left) calls)
        → (if b
        then record { told = answered said (length call.pool) call.at; pool = call.pool; line = last } ∷ replies options last (on n said ∷ left) calls
        else given_for (on n said) call ∷ replies options n (if ends_row options (answered said (length call.pool) call.at) then [] else left) calls)
        ≡ given_for (on n said) call ∷ one_by_one n (if stops options said then [] else through_stop options left) calls
    full_or_not true f (h, r) x y = let z : true ≡ false = sym f ∙ h in let w : ◌≡◌ {A = ℕ} 0 1 = cc in absurd (omega arith)
    full_or_not false f (h, r) x y =
        let q : ends_row options (answered said (length call.pool) call.at) ≡ stops options said = ends_stops options said (length call.pool) call.at f in
        ap (λ (l : List Given). given_for (on n said) call ∷ l)
        (rw (← q) (stop_or_not (ends_row options (answered said (length call.pool) call.at)) r x y))

pub in_order : InOrder
unfolding row
in_order options text small calls givens room c =
    let e = rows options text small calls givens c in
    e ∙ room_replies options 0 (sayings 1 (lines text)) calls (subst NeverFull e room)

-- ---- numbers

through_stop_few : (options : ReaderOptions) (left : List Numbered) → length (through_stop options left) ≤ length left
unfolding through_stop
through_stop_few options [] = omega arith
through_stop_few options (on n said ∷ left) =
    both_ways (λ b. length (on n said ∷ (if b then [] else through_stop options left)) ≤ length (on n said ∷ left)) (stops options said)
    (omega arith) (let i = through_stop_few options left in omega arith)

pub sayings_few : (n : ℕ) (ls : List (List ℕ)) → length (sayings n ls) ≤ length ls
unfolding sayings
sayings_few n [] = omega arith
sayings_few n ([] ∷ ls) = let i = sayings_few (suc n) ls in omega arith
sayings_few n ((c ∷ line) ∷ ls) = let i = sayings_few (suc n) ls in omega arith

pub bounded : Bounded
unfolding row
bounded options text = let i = through_stop_few options (sayings 1 (lines text)) in let j = sayings_few 1 (lines text) in omega arith

-- the line that says this, among lines numbered from k on
abbrev LineAt : (k : ℕ) (ls : List (List ℕ)) (n : ℕ) → Said → Type 0
LineAt k ls n said =
    (c : ℕ) × (line : List ℕ) × (before : List (List ℕ)) × (after : List (List ℕ))
    × (ls ≡ before ++ ((c ∷ line) ∷ after)) × (n ≡ k + length before) × (said ≡ judge (c ∷ line))

line_later : (k : ℕ) (l : List ℕ) (ls : List (List ℕ)) (n : ℕ) (said : Said) → LineAt (suc k) ls n said → LineAt k (l ∷ ls) n said
line_later k l ls n said (c, line, before, after, e, i, j) =
    (c, line, l ∷ before, after, ap (λ (x : List (List ℕ)). l ∷ x) e, i ∙ omega arith, j)

said_line : (k : ℕ) (ls : List (List ℕ)) (n : ℕ) (said : Said) → Memᴰ (on n said) (sayings k ls) → LineAt k ls n said
unfolding sayings
said_line k [] n said m = absurd (mathlib.Core.List.Memᴰ.not-nil m)
said_line k ([] ∷ ls) n said m = line_later k [] ls n said (said_line (suc k) ls n said m)
said_line k ((c ∷ line) ∷ ls) n said m = go (mathlib.Core.List.Memᴰ.cases_cons m) (λ m. said_line (suc k) ls n said m)
  where
    go : (on n said ≡ on k (judge (c ∷ line))) ⊎ Memᴰ (on n said) (sayings (suc k) ls) → (Memᴰ (on n said) (sayings (suc k) ls) → LineAt (suc k) ls n said) → LineAt k ((c ∷ line) ∷ ls) n said
    go (inl e) later = let i : n ≡ k = cc in let j : said ≡ judge (c ∷ line) = cc in (c, line, [], ls, refl, i ∙ sym (add-zero k), j)
    go (inr m) later = line_later k (c ∷ line) ls n said (later m)

line_said : (k : ℕ) (before : List (List ℕ)) (c : ℕ) (line : List ℕ) (after : List (List ℕ)) → Memᴰ (on (k + length before) (judge (c ∷ line))) (sayings k (before ++ ((c ∷ line) ∷ after)))
unfolding sayings
line_said k [] c line after = mathlib.Core.List.Memᴰ.head (ap (λ (n : ℕ). on n (judge (c ∷ line))) (add-zero k))
line_said k ([] ∷ before) c line after = rw (add-suc k (length before), ← suc-add k (length before)) (line_said (suc k) before c line after)
line_said k ((d ∷ l) ∷ before) c line after =
    let m : Memᴰ (on (k + suc (length before)) (judge (c ∷ line))) (sayings (suc k) (before ++ ((c ∷ line) ∷ after))) =
    rw (add-suc k (length before), ← suc-add k (length before)) (line_said (suc k) before c line after) in
    mathlib.Core.List.Memᴰ.tail m

pub numbers_are_lines : NumbersAreLines
numbers_are_lines text n said = (
  λ m. let (c, line, before, after, e, i, j) = said_line 1 (lines text) n said m in (c, line, before, after, e, i ∙ omega arith, j),
  λ p. let (c, line, before, after, e, i, j) = p in
      let q : suc (length before) ≡ 1 + length before = omega arith in
      rw (e, i, j, q) (line_said 1 before c line after),
)

-- ---- lines

joins : (most : ℕ) (text : List ℕ) → length text ≤ most → Joins text (lines text)
unfolding lines
joins zero [] h = nothing
joins zero (c ∷ text) h = absurd (omega arith)
joins (suc most) text h = go text h (λ t l. joins most t l)
  where
    go : (text : List ℕ) → length text ≤ suc most → ((t : List ℕ) → length t ≤ most → Joins t (lines t)) → Joins text (lines text)
    go [] h again = nothing
    go (c ∷ text) h again =
        let s = rest_shorter c text in
        rw (lines_cons c text) (more (λ e. nil≢cons (sym e)) (cut (c ∷ text)) (again (rest (c ∷ text)) (omega arith)))

join_unique : {text : List ℕ} {ls : List (List ℕ)} → Joins text ls → ls ≡ lines text
unfolding lines
join_unique nothing = refl
join_unique (more {text} {line} {rest = left} {ls} h k j) = go text h k (join_unique j)
  where
    go : (t : List ℕ) → t ≢ [] → Cut t line left → ls ≡ lines left → line ∷ ls ≡ lines t
    go [] h k e = absurd (h refl)
    go (c ∷ t) h k e = let (p, q) = cut_unique k in rw (p, e, q) (sym (lines_cons c t))

pub lines_join : LinesJoin
lines_join text ls = (join_unique, λ e. rw e (joins (length text) text (omega arith)))

pub first_line_unique : FirstLineUnique
first_line_unique text line line' b b' x y = (x.part ∙ sym y.part, x.first ∙ sym y.first, x.place ∙ sym y.place)
