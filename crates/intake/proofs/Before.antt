-- What bytes come to after placements that were stated before them, and the claims on chunks of a text as a whole.
-- Assumes nothing.
use Rattle.std.proofs.Common.{◌≡◌, ℕ, zero, suc, ◌^◌, ◌<◌, Bool, true, false, eqb, List, [], ◌∷◌, ◌++◌, sym, refl, ap, ◌∙◌, subst, append_assoc, append-nil, arith}
use mathlib.Core.Option.{Option, none, some, map}
use Rattle.std.specs.Prelude.{if◌then◌else◌}
use Rattle.reader.specs.Lines.{LF, through}
use Rattle.chunks.specs.Begun.{Begun, nothing, is_empty, stands_for, with_CR, add, counted}
use Rattle.chunks.specs.Rows.{joined}
use Rattle.steps.specs.Steps.{Placement}
use Rattle.steps.specs.Source.{Source}
use Rattle.steps.specs.Taken.{Standing, at_first, Went, on, stopped}
use Rattle.intake.specs.Machine.{Taking, Fed, wants_more, decided, after_line, takes, fed, ended}
use Rattle.intake.specs.Counting.{CountsOne}
use Rattle.intake.specs.Claims.{DecidesSo, EndsSo, WaitsSo}
use Rattle.intake.proofs.Counting.{any_chunks, chunks_as_load}
use Rattle.intake.proofs.Hearing.{before, went_before, takes_before}

abbrev pub M : ℕ
M = 2 ^ 64

-- ---- placements that were stated before a chunk, or before the end

abbrev pub came_before : {S : Type 0} → List Placement → Fed S → Fed S
came_before qs (wants_more n st b) = wants_more n (before qs st) b
came_before qs (decided n v ps left) = decided n v (qs ++ ps) left

module _ {S : Type 0} (src : Source S) (inside : ℕ → Bool) (qs : List Placement) where
  pub fed_before : (bytes : List ℕ) (n : ℕ) (st : Standing S) (b : Begun) → fed (takes src inside) n (before qs st) b bytes ≡ came_before qs (fed (takes src inside) n st b bytes)
  unfolding fed
  fed_before [] n st b = refl
  fed_before (c ∷ bytes) n st b = go (eqb c LF) (is_empty b.kept.bytes) (fed_before bytes)
    where
      line : List ℕ
      line = stands_for b.kept

      later : Standing S → Fed S
      later st' = fed (takes src inside) (counted n) st' nothing bytes

      from : Standing S → (lf e : Bool) → Fed S
      from s lf e = if lf then (if e then later s else after_line (counted n) bytes (takes src inside (counted n) s line) later) else fed (takes src inside) n s (add b c) bytes

      go : (lf e : Bool) → ((m : ℕ) (s : Standing S) (d : Begun) → fed (takes src inside) m (before qs s) d bytes ≡ came_before qs (fed (takes src inside) m s d bytes))
          → from (before qs st) lf e ≡ came_before qs (from st lf e)
      go true true ih = ih (counted n) st nothing
      go true false ih = ap (λ (w : Went S). after_line (counted n) bytes w later) (takes_before src inside (counted n) qs st line) ∙ at_end (takes src inside (counted n) st line)
        where
          at_end : (w : Went S) → after_line (counted n) bytes (went_before qs w) later ≡ came_before qs (after_line (counted n) bytes w later)
          at_end (on st') = ih (counted n) st' nothing
          at_end (stopped v ps) = refl
      go false e ih = ih n st (add b c)

  pub ended_before : (n : ℕ) (st : Standing S) (b : Begun) → ended (takes src inside) n (before qs st) b ≡ went_before qs (ended (takes src inside) n st b)
  unfolding ended
  ended_before n st b = go (is_empty (with_CR b).bytes)
    where
      line : List ℕ
      line = stands_for (with_CR b)

      go : (e : Bool) → (if e then on (before qs st) else takes src inside (counted n) (before qs st) line) ≡ went_before qs (if e then on st else takes src inside (counted n) st line)
      go true = refl
      go false = takes_before src inside (counted n) qs st line

-- ---- lines are counted in machine numbers

abbrev pub Small : {S : Type 0} → Fed S → Type 0
Small (wants_more n st b) = n < M
Small (decided n v ps left) = Unit

pub fed_small : {S : Type 0} (take : Taking S) (bytes : List ℕ) (n : ℕ) (st : Standing S) (b : Begun) → n < M → Small (fed take n st b bytes)
unfolding fed
fed_small take [] n st b h = h
fed_small {S} take (c ∷ bytes) n st b h = go (eqb c LF) (is_empty b.kept.bytes) (fed_small take bytes)
  where
    later : Standing S → Fed S
    later st' = fed take (counted n) st' nothing bytes

    fewer : counted n < M
    fewer = omega arith

    go : (lf e : Bool) → ((m : ℕ) (s : Standing S) (d : Begun) → m < M → Small (fed take m s d bytes))
        → Small (if lf then (if e then later st else after_line (counted n) bytes (take (counted n) st (stands_for b.kept)) later) else fed take n st (add b c) bytes)
    go true true ih = ih (counted n) st nothing fewer
    go true false ih = at_end (take (counted n) st (stands_for b.kept))
      where
        at_end : (w : Went S) → Small (after_line (counted n) bytes w later)
        at_end (on st') = ih (counted n) st' nothing fewer
        at_end (stopped v ps) = tt
    go false e ih = ih n st (add b c) h

-- ---- texts

pub joined_one : (chunks : List (List ℕ)) (chunk : List ℕ) → joined (chunks ++ (chunk ∷ [])) ≡ joined chunks ++ chunk
unfolding joined
joined_one [] chunk = append-nil chunk
joined_one (x ∷ chunks) chunk = ap (λ (y : List ℕ). x ++ y) (joined_one chunks chunk) ∙ sym (append_assoc x (joined chunks) chunk)

-- what stands through an LF stands there whatever follows
pub through_more : (n : ℕ) (text more head : List ℕ) → through n text ≡ some head → through n (text ++ more) ≡ some head
unfolding through
through_more zero text more head e = e
through_more (suc n) [] more head e = let z : ◌≡◌ {A = ℕ} 0 1 = cc in absurd (omega arith)
through_more (suc n) (c ∷ text) more head e = go (eqb c LF) (through_more n text more) (through_more (suc n) text more) e
  where
    one_more : (o o' : Option (List ℕ)) → ((h : List ℕ) → o ≡ some h → o' ≡ some h) → map (λ part. c ∷ part) o ≡ some head → map (λ part. c ∷ part) o' ≡ some head
    one_more none o' f q = let z : ◌≡◌ {A = ℕ} 0 1 = cc in absurd (omega arith)
    one_more (some h) o' f q = rw (f h refl) q

    go : (lf : Bool) → ((h : List ℕ) → through n text ≡ some h → through n (text ++ more) ≡ some h)
        → ((h : List ℕ) → through (suc n) text ≡ some h → through (suc n) (text ++ more) ≡ some h)
        → map (λ part. c ∷ part) (if lf then through n text else through (suc n) text) ≡ some head
        → map (λ part. c ∷ part) (if lf then through n (text ++ more) else through (suc n) (text ++ more)) ≡ some head
    go true f g q = one_more (through n text) (through n (text ++ more)) f q
    go false f g q = one_more (through (suc n) text) (through (suc n) (text ++ more)) g q

module _ {S : Type 0} (src : Source S) (inside : ℕ → Bool) where
  -- what bytes come to from the beginning of their text
  abbrev pub from_first : (bytes : List ℕ) → Fed S
  from_first bytes = fed (takes src inside) 0 (at_first src) nothing bytes

  -- the claims on chunks, of a text
  abbrev pub TextAsLoad : (text : List ℕ) → Fed S → Type 0
  TextAsLoad text came = DecidesSo src inside text came × EndsSo src inside text (takes src inside) came × WaitsSo src inside text came

  pub text_as_load : CountsOne src → (text : List ℕ) → TextAsLoad text (from_first text)
  unfolding joined
  text_as_load one text =
      subst (λ (t : List ℕ). TextAsLoad t (from_first t)) (append-nil text)
      (subst (TextAsLoad (text ++ [])) (any_chunks S (takes src inside) 0 (at_first src) nothing (text ∷ [])) (chunks_as_load S src inside (text ∷ []) one))
