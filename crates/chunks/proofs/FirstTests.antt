-- The outcomes of `next`, `finish`, `next_line` and `last_line` by their first tests.
-- Assumes nothing.
use Rattle.std.proofs.Common.{◌≡◌, ℕ, zero, suc, ◌<◌, ◌≤◌, Bool, true, false, ◌||◌, ltb, ◌≢◌, List, [], ◌∷◌, length, take, drop, sym, refl, ap, ◌∙◌, min, arith, drop_of_length-le, length-take-le, ltb-false, ltb-true, le-ltb, lt-ltb}
use mathlib.Core.Option.{none, some}
use lib.Seq.{take-length}
use Rattle.std.specs.Prelude.{if◌then◌else◌}
use Rattle.record.specs.Refusals.{carry_too_small}
use Rattle.digits.proofs.Tests.{if_true, if_false, or_true, or_false}
use Rattle.reader.specs.Told.{refuses, done}
use Rattle.reader.specs.Lines.{CR}
use Rattle.chunks.specs.declared.Chunks.{Chunks}
use Rattle.chunks.specs.declared.Place.TheVariants.{Nowhere}
use Rattle.chunks.specs.declared.LineReply.{LineReply}
use Rattle.chunks.specs.declared.LineReply.TheVariants.{InCarry, Done, CarryTooSmall}
use Rattle.chunks.specs.declared.LineStep.{LineStep}
use Rattle.chunks.specs.Begun.{Kept, none_kept, nothing, is_empty, with_CR, Sought, seek, look}
use Rattle.chunks.specs.Next.{tells, left_out, begun, past_line, over, number_behind, in_carry, Outcome, unchanged, answered_line, of_sought, too_small, next_outcome, finish_outcome}
use Rattle.chunks.specs.Line.{kept_at, Inside, line_place, LineOutcome, idle, found_line, of_found, next_line_outcome, last_line_outcome, Finds, NextLine, LastLine}
use Rattle.chunks.specs.Helpers.{held, has_line, Grown, seek_at}
use Rattle.chunks.proofs.Waiting.{push_some}

-- ---- the first tests

pub small_carry : (s : Chunks) (carry : List ℕ) → length carry < 522 → too_small s carry ≡ true
unfolding too_small
small_carry s carry h = rw (lt-ltb (length carry) 522 h)

pub much_used : (s : Chunks) (carry : List ℕ) → 522 < s.used → too_small s carry ≡ true
unfolding too_small
much_used s carry h = rw (lt-ltb 522 s.used h) (or_true (ltb (length carry) 522))

pub big_enough : (s : Chunks) (carry : List ℕ) → 522 ≤ length carry → s.used ≤ 522 → too_small s carry ≡ false
unfolding too_small
big_enough s carry h u = rw (le-ltb (length carry) 522 h, le-ltb 522 s.used u)

module _ (s : Chunks) (chunk carry pool : List ℕ) (at : ℕ) where
  pub next_18 : too_small s carry ≡ true → next_outcome s chunk carry pool at ≡ unchanged (tells (refuses carry_too_small)) s carry pool
  unfolding next_outcome
  next_18 t = if_true _ _ _ t

  pub next_over : too_small s carry ≡ false → s.finished ≡ true → next_outcome s chunk carry pool at ≡ unchanged (tells done) s carry pool
  unfolding next_outcome
  next_over t d = if_false _ _ _ t ∙ if_true _ _ _ d

  pub next_on : too_small s carry ≡ false → s.finished ≡ false
      → next_outcome s chunk carry pool at ≡ of_sought s (take s.used carry) chunk pool at (look s.empties (begun s carry) (drop s.position chunk))
  unfolding next_outcome
  next_on t d = if_false _ _ _ t ∙ if_false _ _ _ d

-- "finish" with nothing begun
abbrev pub nothing_left : Chunks → (pool : List ℕ) → Outcome
nothing_left s pool = record { word = tells done; state = over s; lies = Nowhere; shows = []; carried = []; pool = pool }

module _ (s : Chunks) (carry pool : List ℕ) (at : ℕ) where
  pub finish_18 : too_small s carry ≡ true → finish_outcome s carry pool at ≡ unchanged (tells (refuses carry_too_small)) s carry pool
  unfolding finish_outcome
  finish_18 t = if_true _ _ _ t

  pub finish_over : too_small s carry ≡ false → s.finished ≡ true → finish_outcome s carry pool at ≡ unchanged (tells done) s carry pool
  unfolding finish_outcome
  finish_over t d = if_false _ _ _ t ∙ if_true _ _ _ d

  pub finish_on : too_small s carry ≡ false → s.finished ≡ false → (b : Bool) → is_empty (with_CR (begun s carry)).bytes ≡ b
      → finish_outcome s carry pool at ≡ (if b then nothing_left s pool else answered_line s (take s.used carry) [] pool at none s.empties (with_CR (begun s carry)) 0 true)
  unfolding finish_outcome
  finish_on t d b e = if_false _ _ _ t ∙ if_false _ _ _ d ∙ rw e

-- ---- the same of a search

-- nothing happened
idle_found : (reply : LineReply) (s : Chunks) (chunk carry : List ℕ) (r : LineStep) → kept_at reply chunk carry ≡ none_kept → Inside reply chunk carry → r ≡ record { reply = reply; state = s }
    → Finds (idle reply s carry) chunk r carry
unfolding idle
idle_found reply s chunk carry r k i e = rw e (record { answer = refl; state = refl; line = k; inside = i; carry = take-length carry })

module _ (s : Chunks) (chunk carry : List ℕ) where
  pub line_18 : too_small s carry ≡ true → next_line_outcome s chunk carry ≡ idle CarryTooSmall s carry
  unfolding next_line_outcome
  line_18 t = if_true _ _ _ t

  pub line_over : too_small s carry ≡ false → s.finished ≡ true → next_line_outcome s chunk carry ≡ idle Done s carry
  unfolding next_line_outcome
  line_over t d = if_false _ _ _ t ∙ if_true _ _ _ d

  pub line_on : too_small s carry ≡ false → s.finished ≡ false → next_line_outcome s chunk carry ≡ of_found s chunk (look s.empties (begun s carry) (drop s.position chunk))
  unfolding next_line_outcome
  line_on t d = if_false _ _ _ t ∙ if_false _ _ _ d

  module _ (r : LineStep) where
    pub line_small : too_small s carry ≡ true → r ≡ record { reply = CarryTooSmall; state = s } → NextLine s chunk carry r carry
    line_small t e = rw (line_18 t) (idle_found CarryTooSmall s chunk carry r refl tt e)

    pub line_done : too_small s carry ≡ false → s.finished ≡ true → r ≡ record { reply = Done; state = s } → NextLine s chunk carry r carry
    line_done t d e = rw (line_over t d) (idle_found Done s chunk carry r refl tt e)

-- "last_line" with nothing begun
abbrev pub no_last : Chunks → LineOutcome
no_last s = record { reply = Done; state = over s; kept = none_kept; carried = [] }

module _ (s : Chunks) (carry : List ℕ) where
  pub last_18 : too_small s carry ≡ true → last_line_outcome s carry ≡ idle CarryTooSmall s carry
  unfolding last_line_outcome
  last_18 t = if_true _ _ _ t

  pub last_over : too_small s carry ≡ false → s.finished ≡ true → last_line_outcome s carry ≡ idle Done s carry
  unfolding last_line_outcome
  last_over t d = if_false _ _ _ t ∙ if_true _ _ _ d

  pub last_on : too_small s carry ≡ false → s.finished ≡ false → (b : Bool) → is_empty (with_CR (begun s carry)).bytes ≡ b
      → last_line_outcome s carry ≡ (if b then no_last s else found_line s [] none s.empties (with_CR (begun s carry)) 0 true)
  unfolding last_line_outcome
  last_on t d b e = if_false _ _ _ t ∙ if_false _ _ _ d ∙ rw e

  module _ (r : LineStep) where
    pub last_small : too_small s carry ≡ true → r ≡ record { reply = CarryTooSmall; state = s } → LastLine s carry r carry
    last_small t e = rw (last_18 t) (idle_found CarryTooSmall s [] carry r refl tt e)

    pub last_done : too_small s carry ≡ false → s.finished ≡ true → r ≡ record { reply = Done; state = s } → LastLine s carry r carry
    last_done t d e = rw (last_over t d) (idle_found Done s [] carry r refl tt e)

  -- a reply that is neither a line nor "done" is 18
  pub last_other : (r : LineStep) (carry' : List ℕ) → LastLine s carry r carry' → ((n k : ℕ) → r.reply ≢ InCarry n k) → r.reply ≢ Done → r.reply ≡ CarryTooSmall
  unfolding idle found_line line_place
  last_other r carry' f no_line not_done = go (too_small s carry) refl s.finished refl (is_empty (with_CR (begun s carry)).bytes) refl
    where
      go : (t : Bool) → too_small s carry ≡ t → (d : Bool) → s.finished ≡ d → (b : Bool) → is_empty (with_CR (begun s carry)).bytes ≡ b → r.reply ≡ CarryTooSmall
      go true t d e b n = f.answer ∙ ap (λ (o : LineOutcome). o.reply) (last_18 t)
      go false t true e b n = absurd (not_done (f.answer ∙ ap (λ (o : LineOutcome). o.reply) (last_over t e)))
      go false t false e true n = absurd (not_done (f.answer ∙ ap (λ (o : LineOutcome). o.reply) (last_on t e true n)))
      go false t false e false n = absurd (no_line _ _ (f.answer ∙ ap (λ (o : LineOutcome). o.reply) (last_on t e false n)))

-- ---- what is looked for

within_drop : (chunk : List ℕ) (position r : ℕ) → r ≡ min position (length chunk) → drop r chunk ≡ drop position chunk
within_drop chunk position r w = go (ltb (length chunk) position) refl
  where
    go : (t : Bool) → ltb (length chunk) position ≡ t → drop r chunk ≡ drop position chunk
    go true e =
        let l : length chunk < position = ltb-true (length chunk) position e in
        drop_of_length-le chunk {i = r} (omega arith) ∙ sym (drop_of_length-le chunk {i = position} (omega arith))
    go false e = let l : position ≤ length chunk = ltb-false (length chunk) position e in let same : r ≡ position = omega arith in ap (λ (n : ℕ). drop n chunk) same

pub look_kept : (empties n k : ℕ) (cr : Bool) (carry text : List ℕ) → 0 < n → 0 < length carry → look empties (held carry n k cr) text ≡ seek none empties (held carry n k cr) text
unfolding look is_empty with_CR
look_kept empties zero k cr carry text p q = absurd (omega arith)
look_kept empties (suc n) k cr [] text p q = absurd (omega arith)
look_kept empties (suc n) k true (c ∷ carry) text p q = rw (push_some (record { bytes = c ∷ take n carry; skipped = k }) CR)
look_kept empties (suc n) k false (c ∷ carry) text p q = refl

pub look_cr : (empties n k : ℕ) (cr : Bool) (carry text : List ℕ) → n ≡ 0 → cr ≡ true → look empties (held carry n k cr) text ≡ seek none empties (held carry n k cr) text
unfolding look is_empty with_CR
look_cr empties n k cr carry text z e = rw (z, e)

pub look_fresh : (empties n k : ℕ) (cr : Bool) (carry text : List ℕ) → n ≡ 0 → k ≡ 0 → cr ≡ false → look empties (held carry n k cr) text ≡ seek (some text) empties nothing text
unfolding look is_empty with_CR
look_fresh empties n k cr carry text z y e = rw (z, y, e)

pub none_out : (s : Chunks) → s.used ≡ 0 → left_out s ≡ 0
none_out s z = rw (lt-ltb s.used 522 (omega arith))

module _ (s : Chunks) (chunk carry : List ℕ) (position : ℕ) (r : LineStep) (carry' : List ℕ)
    (big : 522 ≤ length carry) (small : s.used ≤ 522) (on : s.finished ≡ false) (w : position ≡ min s.position (length chunk)) where
  goes : (f : Sought) → look s.empties (begun s carry) (drop position chunk) ≡ f → Finds (of_found s chunk f) chunk r carry' → NextLine s chunk carry r carry'
  goes f e m =
      rw (line_on s chunk carry (big_enough s carry big small) on
      ∙ ap (λ (t : List ℕ). of_found s chunk (look s.empties (begun s carry) t)) (sym (within_drop chunk s.position position w))
      ∙ ap (of_found s chunk) e) m

  pub line_begun : has_line s ≡ true → Finds (of_found s chunk (seek none s.empties (begun s carry) (drop position chunk))) chunk r carry' → NextLine s chunk carry r carry'
  line_begun e m = goes (seek none s.empties (begun s carry) (drop position chunk)) (go (ltb 0 s.used) refl e) m
    where
      go : (t : Bool) → ltb 0 s.used ≡ t → (t || s.cr) ≡ true → look s.empties (begun s carry) (drop position chunk) ≡ seek none s.empties (begun s carry) (drop position chunk)
      go true u e = look_kept s.empties s.used (left_out s) s.cr carry (drop position chunk) (ltb-true 0 s.used u) (omega arith)
      go false u e = look_cr s.empties s.used (left_out s) s.cr carry (drop position chunk) (omega (arith, ltb-false 0 s.used u)) e

  pub line_fresh : has_line s ≡ false → Finds (of_found s chunk (seek_at chunk position s.empties)) chunk r carry' → NextLine s chunk carry r carry'
  line_fresh e m =
      let (u, w) = or_false (ltb 0 s.used) s.cr e in
      let z : s.used ≡ 0 = omega (arith, ltb-false 0 s.used u) in
      goes (seek_at chunk position s.empties) (look_fresh s.empties s.used (left_out s) s.cr carry (drop position chunk) z (none_out s z) w) m

-- ---- the last line

pub some_line : (n : ℕ) (l : List ℕ) → (n ≡ 0 → ⊥) → 0 < length l → is_empty (take n l) ≡ false
unfolding is_empty
some_line zero l z h = absurd (z refl)
some_line (suc n) [] z h = absurd (omega arith)
some_line (suc n) (c ∷ l) z h = refl

module _ (s : Chunks) (carry : List ℕ) (n m : ℕ) (carry' : List ℕ) (big : 522 ≤ length carry) (small : s.used ≤ 522) (on : s.finished ≡ false)
    (g : Grown carry s.used (with_CR (begun s carry)) n m carry') where
  pub last_none : (state : Chunks) (r : LineStep) → n ≡ 0 → state ≡ over s → r ≡ record { reply = Done; state = state } → LastLine s carry r carry'
  unfolding is_empty
  last_none state r z b e =
      let k : (with_CR (begun s carry)).bytes ≡ [] = ap (λ (k : Kept). k.bytes) (sym g.holds) ∙ ap (λ (m : ℕ). take m carry') z in
      rw (last_on s carry (big_enough s carry big small) on true (ap is_empty k), e) (record { answer = refl; state = b; line = refl; inside = tt; carry = refl })

  pub last_found : (r : LineStep) → (n ≡ 0 → ⊥) → length carry' ≡ length carry → r ≡ record { reply = InCarry n m; state = past_line s 0 (number_behind s s.empties) true }
      → LastLine s carry r carry'
  unfolding found_line line_place in_carry is_empty
  last_found r z same e =
      let size : length (take n carry') ≡ n = length-take-le n carry' (omega (arith, g.within)) in
      rw (
        last_on s carry (big_enough s carry big small) on false (ap (λ (k : Kept). is_empty k.bytes) (sym g.holds) ∙ some_line n carry' z (omega arith))
            ∙ ap (λ (k : Kept). found_line s [] none s.empties k 0 true) (sym g.holds),
        e,
      )
      (record { answer = ap (λ (x : ℕ). InCarry x m) (sym size); state = refl; line = refl; inside = (g.within, omega (arith, g.within)); carry = rw size })
