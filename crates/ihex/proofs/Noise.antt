-- The claims of `specs/Noise.antt`: what is proved of the judge and of loads, in numbers.
-- Assumes nothing.
use Prim.Native.Nat.{ℕ, ◌<◌}
use mathlib.Core.Path.{◌≡◌, refl, sym, ◌∙◌, ap, subst₂}
use mathlib.Core.Logic.{◌≢◌, ◌⊎◌, inl, inr}
use mathlib.Core.List.{List, ◌∷◌, ◌++◌}
use native.Mathlib.Omega.{arith}
use lib.ListN.{length}
use Rattle.record.specs.Refusals.{refusal}
use Rattle.record.specs.Line.{Said, says, wrong, judge}
use Rattle.record.specs.Noise.{SaysARecord, AnswerToWrong}
use Rattle.record.proofs.Noise.{one_wrong_character, answer_by}
use Rattle.record.proofs.Standing.{Stands, stands, fault_few}
use Rattle.reader.specs.Answer.{answered, poured}
use Rattle.steps.specs.Steps.{Verdict}
use Rattle.intel.specs.Placing.{intel}
use Rattle.loader.specs.Load.{load}
use Rattle.loader.specs.Noise.{RefusedOrSame, is_refused, is_the_same}
use Rattle.loader.proofs.Noise.{load_noticed}
use Rattle.codes.specs.Codes.{OK, POOL_FULL, value, reading, loading, load_numbers}
use Rattle.ihex.specs.Entries.{IhexReadRecord}
use Rattle.ihex.specs.Noise.{ReturnedRecord, returned, refuse, IhexOneWrongCharacter, IhexDamageIsNoticed}
use Rattle.ihex.proofs.Loads.{accepts}

-- a record, or a full pool, is returned only for a line that says a record
given_is_said : (line pool : List ℕ) (at r a b c : ℕ) (p : List ℕ) → IhexReadRecord line pool at r a b c p → (r < 6) ⊎ (r ≡ POOL_FULL) → SaysARecord line
given_is_said line pool at r a b c p x h = go (judge line) refl (stands line) x.answer.code_is
  where
    go : (said : Said) → judge line ≡ said → Stands line said → r ≡ (reading (answered said (length pool) at)).code → SaysARecord line
    go (says kind address payload) e s k = (kind, address, payload, e)
    go (wrong (refusal number values)) e s k =
        unfold answered in let few = fault_few s in elim h [ inl l ↦ absurd (omega arith) | inr q ↦ absurd (omega arith) ]

module _ (pool : List ℕ) (at : ℕ) where
  -- what is said, returned with this pool and position
  return_as : Said → ReturnedRecord
  return_as said = let m = reading (answered said (length pool) at) in returned m.code (value m 0) (value m 1) (value m 2) (poured said pool at)

  returns : (line : List ℕ) (r a b c : ℕ) (p : List ℕ) → IhexReadRecord line pool at r a b c p → return_as (judge line) ≡ returned r a b c p
  unfolding return_as
  returns line r a b c p x = rw (x.answer.code_is, x.answer.a_is, x.answer.b_is, x.answer.c_is, x.left)

pub ihex_one_wrong_character : IhexOneWrongCharacter
unfolding return_as answered poured
ihex_one_wrong_character before x y after pool at r a b c p r' a' b' c' p' n l h l' =
    let line = before ++ (x ∷ after) in
    let (kind, address, payload, e) = given_is_said line pool at r a b c p l h in
    subst₂ (λ (same z : ReturnedRecord). AnswerToWrong (refuse pool) same (length before) x y (before ++ (y ∷ after)) z)
    (ap (return_as pool at) (sym e) ∙ returns pool at line r a b c p l) (returns pool at (before ++ (y ∷ after)) r' a' b' c' p' l')
    (answer_by (return_as pool at) (one_wrong_character before x y after kind address payload n e))

pub ihex_damage_is_noticed : IhexDamageIsNoticed
ihex_damage_is_noticed text text' d first page marks r p m l ok r' p' m' l' =
    let (tally, e) = accepts intel text first page marks r p m l ok in
    rw (l.numbers, l.page_is, l.marks_is, l'.numbers, l'.page_is, l'.marks_is) (go _ _ _ (load_noticed text text' d first page marks tally e))
  where
    go : (v : Verdict) (q k : List ℕ)
        → RefusedOrSame page marks (load text first page marks).answer (load text first page marks).page (load text first page marks).marks v q k
        → (((loading v).code ≢ OK) × (q ≡ page) × (k ≡ marks))
        ⊎ ((load_numbers v ≡ load_numbers (load text first page marks).answer) × (q ≡ (load text first page marks).page) × (k ≡ (load text first page marks).marks))
    go v q k (is_refused (refusal number values) n) = inl (λ z. omega arith, refl, refl)
    go v q k is_the_same = inr (refl, refl, refl)
