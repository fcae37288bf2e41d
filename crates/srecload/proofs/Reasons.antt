-- Why a load of S-records answers as it does: the lines are walked once, and each either passes or is the one that the decision names.
-- Assumes nothing.
use Rattle.std.proofs.Common.{◌≡◌, ℕ, suc, ◌+◌, Bool, true, false, eqb, ◌≢◌, List, [], ◌∷◌, ◌++◌, map, sym, refl, ap, ◌∙◌, arith, eqb-true}
use mathlib.Core.Option.{Option, none, some}
use mathlib.Core.List.{nil≢cons}
use borrow.Author.Tests.{eqb-false}
use Rattle.std.specs.Prelude.{if◌then◌else◌}
use Rattle.record.specs.Refusals.{count_mismatch}
use Rattle.record.specs.Line.{Said, says, wrong}
use Rattle.srec.specs.Line.{judge}
use Rattle.steps.specs.Steps.{places, counts as counts-to, Step, step, Tally, nothing_yet, one_more, refused, outside, on, stop, at_data as met, turn, onward, decision, stated}
use Rattle.steps.specs.Source.{steps}
use Rattle.steps.proofs.Firsts.{Seen, seen, Walked, past, here}
use Rattle.srecload.specs.Placing.{SMeaning, s_header, s_data, s_count, s_end, s_meaning, s_placed, s_states, s_does, s_act, s_records}
use Rattle.srecload.specs.Claims.{said_record, record_on, states, counts, data_records, account, is_empty, is_header, lies_inside, counts_right, the_end, no_record, first_outside, count_differs}

-- one line more
records_snoc : (ahead : List (List ℕ)) (l : List ℕ) (o : Option SMeaning) → record_on l ≡ o → data_records (ahead ++ (l ∷ [])) ≡ counts o + data_records ahead
unfolding data_records
records_snoc [] l o e = rw e
records_snoc (x ∷ ahead) l o e = let h = records_snoc ahead l o e in omega arith

-- a tally is that of these lines, of which none states a start
pub record Counted (tally : Tally) (ahead : List (List ℕ)) : Type 0 where
  pub records : tally.records ≡ data_records ahead
  pub start : tally.start ≡ none

pub counted_none : Counted nothing_yet []
unfolding data_records
counted_none = record { records = refl; start = refl }

-- a line that counts nothing leaves the tally
still : (tally : Tally) (ahead : List (List ℕ)) (l : List ℕ) (o : Option SMeaning) → Counted tally ahead → record_on l ≡ o → counts o ≡ 0 → Counted tally (ahead ++ (l ∷ []))
still tally ahead l o c e z = record { records = omega (arith, c.records, records_snoc ahead l o e); start = c.start }

module _ (inside : ℕ → Bool) where
  module _ (n : ℕ) (ahead : List (List ℕ)) (tally : Tally) (counted : Counted tally ahead) (l : List ℕ) (some_byte : l ≢ []) (ls : List (List ℕ)) where
    -- the steps of the lines after this one
    abbrev rest : List Step
    rest = steps s_records tt (suc n) ls

    abbrev After : Tally → Type 0
    After t = Walked (account inside) (ahead ++ (l ∷ [])) rest (suc n) ls (decision inside t rest)

    abbrev Later : Type 0
    Later = (t : Tally) → Counted t (ahead ++ (l ∷ [])) → After t

    at_data : (address : ℕ) (bytes : List ℕ) → record_on l ≡ some (s_data address bytes) → After (one_more tally)
        → (o : Option ℕ) → Seen inside (s_placed address bytes) o
        → Walked (account inside) ahead (step n (places (s_placed address bytes)) ∷ rest) n (l ∷ ls) (onward n (met n o tally) (λ t'. decision inside t' rest))
    unfolding stated states s_states
    at_data address bytes e ih none s =
        past (account inside) ahead l _ rest n ls (lies_inside address bytes e s) (rw e) (decision inside (one_more tally) rest) ih
    at_data address bytes e ih (some a) s =
        here (account inside) ahead l _ n ls _
        (rw (← s.there) (first_outside s.before s.after s.p (rw e s.whole) s.insides s.out))
        (λ t h. cc)

    at_count : (c : ℕ) → record_on l ≡ some (s_count c) → Later → (b : Bool) → eqb c tally.records ≡ b
        → Walked (account inside) ahead (step n (counts-to c) ∷ rest) n (l ∷ ls)
        (onward n (if b then on tally else stop (refused (count_mismatch c tally.records) n)) (λ t'. decision inside t' rest))
    unfolding stated states s_states counts
    at_count c e ih true q =
        past (account inside) ahead l _ rest n ls (counts_right c e (eqb-true c tally.records q ∙ counted.records)) (rw e) (decision inside tally rest)
        (ih tally (still tally ahead l _ counted e refl))
    at_count c e ih false q =
        here (account inside) ahead l _ n ls _
        (rw counted.records (count_differs c e (λ z. eqb-false c tally.records q (z ∙ sym counted.records))))
        (λ t h. cc)

    at_record : (m : SMeaning) → record_on l ≡ some m → Later
        → let all = map (step n) (s_does m) ++ rest in Walked (account inside) ahead all n (l ∷ ls) (decision inside tally all)
    unfolding decision turn s_does stated states s_states counts
    at_record s_header e ih =
        past (account inside) ahead l rest rest n ls (is_header e) (rw e) (decision inside tally rest) (ih tally (still tally ahead l _ counted e refl))
    at_record (s_data address bytes) e ih =
        at_data address bytes e (ih (one_more tally) (record { records = omega (arith, counted.records, records_snoc ahead l _ e); start = counted.start })) (outside inside (s_placed address bytes)) (seen inside (s_placed address bytes))
    at_record (s_count c) e ih = at_count c e ih (eqb c tally.records) refl
    at_record (s_end address) e ih =
        rw counted.start (here (account inside) ahead l _ n ls _ (rw counted.records (the_end address e)) (λ t h. refl))

    -- what is said on the line
    at_said : (s : Said) → judge l ≡ s → Later
        → let all = map (step n) (s_act s) ++ rest in Walked (account inside) ahead all n (l ∷ ls) (decision inside tally all)
    unfolding s_act decision turn said_record
    at_said (says kind address payload) q ih = at_record (s_meaning kind address payload) (ap said_record q) ih
    at_said (wrong r) q ih = here (account inside) ahead l _ n ls (refused r n) (no_record r some_byte q) (λ t h. cc)

  pub walked : (ls : List (List ℕ)) (n : ℕ) (ahead : List (List ℕ)) (tally : Tally) → Counted tally ahead
      → Walked (account inside) ahead (steps s_records tt n ls) n ls (decision inside tally (steps s_records tt n ls))
  unfolding steps s_records decision said_record states counts
  walked [] n ahead tally e = tt
  walked ([] ∷ ls) n ahead tally e =
      let s = steps s_records tt (suc n) ls in
      past (account inside) ahead [] s s n ls (is_empty refl) refl (decision inside tally s) (walked ls (suc n) (ahead ++ ([] ∷ [])) tally (still tally ahead [] none e refl refl))
  walked ((c ∷ l) ∷ ls) n ahead tally e = at_said n ahead tally e (c ∷ l) (λ z. nil≢cons (sym z)) ls (judge (c ∷ l)) refl (walked ls (suc n) (ahead ++ ((c ∷ l) ∷ [])))
