-- A list of records, one record more: the definitions of an object recurse from the front, and these laws go from the back.
-- Assumes nothing.
use Rattle.std.proofs.Common.{◌≡◌, ℕ, ◌+◌, ◌≤◌, Bool, true, false, ltb, List, [], ◌∷◌, ◌++◌, length, sym, refl, ap, ◌∙◌, append_assoc, append-nil, arith, ltb-false}
use mathlib.Core.Option.{Option, none, some}
use Rattle.digits.specs.Common.{or_else, Every}
use Rattle.std.specs.Prelude.{if◌then◌else◌}
use Rattle.record.specs.Refusals.{Refusal, missing_end_of_file_record, multiple_end_of_file_records}
use Rattle.record.specs.declared.Record.{Record}
use Rattle.digits.proofs.Tests.{branch}
use Rattle.record.proofs.Choices.{or_else_none, or_else_assoc, or_else_both}
use Rattle.writer.specs.Text.{chars, refused, unless}
use Rattle.writer.specs.Line.{line_refusal, ended_line}
use Rattle.writer.specs.Object.{is_end, ends, ends_in_end, first_refusal, joined_lines, object}
use Rattle.writer.specs.Claims.{ObjectWhole, WholeObject}

pub ends_snoc : (rs : List Record) (r : Record) → ends (rs ++ (r ∷ [])) ≡ ends rs + (if is_end r then 1 else 0)
unfolding ends
ends_snoc [] r = omega arith
ends_snoc (q ∷ rs) r = let e = ends_snoc rs r in omega arith

pub ends_most : (rs : List Record) → ends rs ≤ length rs
unfolding ends
ends_most [] = omega arith
ends_most (r ∷ rs) = let e = ends_most rs in branch (λ (k : ℕ). k + ends rs ≤ length (r ∷ rs)) (is_end r) 1 0 (λ t. omega arith) (λ t. omega arith)

pub ends_in_end_snoc : (rs : List Record) (r : Record) → ends_in_end (rs ++ (r ∷ [])) ≡ is_end r
unfolding ends_in_end
ends_in_end_snoc [] r = refl
ends_in_end_snoc (q ∷ []) r = refl
ends_in_end_snoc (q ∷ p ∷ rs) r = ends_in_end_snoc (p ∷ rs) r

pub first_refusal_snoc : (rs : List Record) (r : Record) (n : ℕ) → first_refusal (rs ++ (r ∷ [])) n ≡ or_else (first_refusal rs n) (line_refusal r n)
unfolding first_refusal
first_refusal_snoc [] r n = or_else_none (line_refusal r n)
first_refusal_snoc (q ∷ rs) r n = ap (or_else (line_refusal q n)) (first_refusal_snoc rs r n) ∙ sym (or_else_assoc (line_refusal q n) (first_refusal rs n) (line_refusal r n))

pub lines_snoc : (rs : List Record) (r : Record) (pool : List ℕ) → joined_lines (rs ++ (r ∷ [])) pool ≡ joined_lines rs pool ++ ended_line r pool
unfolding joined_lines
lines_snoc [] r pool = append-nil (ended_line r pool)
lines_snoc (q ∷ rs) r pool = ap (λ (l : List ℕ). ended_line q pool ++ l) (lines_snoc rs r pool) ∙ sym (append_assoc (ended_line q pool) (joined_lines rs pool) (ended_line r pool))

every_fine : (rs : List Record) (n : ℕ) → first_refusal rs n ≡ none → Every (λ r. line_refusal r n ≡ none) rs
unfolding first_refusal
every_fine [] n e = tt
every_fine (r ∷ rs) n e = let p = or_else_both (line_refusal r n) (first_refusal rs n) e in (p.0, every_fine rs n p.1)

-- an object with a text
pub unless_chars : (f : Option Refusal) (ds cs : List ℕ) → unless f ds ≡ chars cs → (f ≡ none) × (cs ≡ ds)
unless_chars none ds cs e = (refl, cc)
unless_chars (some r) ds cs e = let z : ◌≡◌ {A = ℕ} 0 1 = cc in absurd (omega arith)

pub one_at_least : (rs : List Record) → ends_in_end rs ≡ true → 1 ≤ ends rs
unfolding ends ends_in_end
one_at_least [] e = let z : ◌≡◌ {A = ℕ} 0 1 = cc in absurd (omega arith)
one_at_least (r ∷ []) e = rw e (omega arith)
one_at_least (r ∷ q ∷ rs) e = let i = one_at_least (q ∷ rs) e in omega arith

-- what an object is, by its tests
pub record Parts (rs : List Record) (pool cs : List ℕ) : Type 0 where
  pub ended : ends_in_end rs ≡ true
  pub few : ltb 1 (ends rs) ≡ false
  pub fine : first_refusal rs (length pool) ≡ none
  pub lined : cs ≡ joined_lines rs pool

pub parts : (rs : List Record) (pool cs : List ℕ) → object rs pool ≡ chars cs → Parts rs pool cs
unfolding object
parts rs pool cs = go (ends_in_end rs) (ltb 1 (ends rs)) refl refl
  where
    go : (b c : Bool) → ends_in_end rs ≡ b → ltb 1 (ends rs) ≡ c
        → (if b then (if c then refused (multiple_end_of_file_records (ends rs)) else unless (first_refusal rs (length pool)) (joined_lines rs pool)) else refused missing_end_of_file_record) ≡ chars cs
        → Parts rs pool cs
    go true true e f q = let z : ◌≡◌ {A = ℕ} 0 1 = cc in absurd (omega arith)
    go true false e f q = let p = unless_chars (first_refusal rs (length pool)) (joined_lines rs pool) cs q in record { ended = e; few = f; fine = p.0; lined = p.1 }
    go false c e f q = let z : ◌≡◌ {A = ℕ} 0 1 = cc in absurd (omega arith)

pub object_whole : ObjectWhole
object_whole rs pool cs e =
    let p = parts rs pool cs e in
    let least = one_at_least rs p.ended in
    let most = ltb-false 1 (ends rs) p.few in
    record { fine = every_fine rs (length pool) p.fine; lined = p.lined; ended = p.ended; one = omega arith }

none_refused : (rs : List Record) (n : ℕ) → Every (λ r. line_refusal r n ≡ none) rs → first_refusal rs n ≡ none
unfolding first_refusal
none_refused [] n f = refl
none_refused (r ∷ rs) n (f, fs) = rw (f, none_refused rs n fs)

pub whole_object : WholeObject
unfolding object
whole_object rs pool cs w =
    let few : ltb 1 (ends rs) ≡ false = ap (ltb 1) w.one in
    rw (w.ended, few, none_refused rs (length pool) w.fine, w.lined)
