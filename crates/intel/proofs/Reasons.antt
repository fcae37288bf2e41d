-- Why a load answers as it does: the lines are walked once, and each either passes or is the one that the decision names.
-- Assumes nothing.
use mathlib.Core.Path.{◌≡◌, refl, sym, ap, ◌∙◌, subst}
use mathlib.Core.Logic.{◌≢◌}
use Prim.Native.Nat.{ℕ, suc, ◌+◌}
use native.Mathlib.Omega.{arith}
use mathlib.Core.Bool.{Bool, true, false}
use mathlib.Core.Option.{Option, none, some, get_or}
use mathlib.Core.List.{List, [], ◌∷◌, ◌++◌, map, nil≢cons}
use Rattle.digits.specs.Common.{or_else}
use Rattle.std.specs.Prelude.{if◌then◌else◌}
use Rattle.record.specs.Refusals.{start_conflict}
use Rattle.record.specs.Line.{Said, says, wrong, judge}
use Rattle.record.specs.Meaning.{Meaning, data_at, end_of_file, extended_segment, start_segment, extended_linear, start_linear, meaning}
use Rattle.record.proofs.Choices.{or_else_none, or_else_assoc, getD_or_else}
use Rattle.steps.specs.Steps.{Start, cs_with_ip, linear_address, starts as states-start, Step, step, Tally, nothing_yet, one_more, started, refused, outside, differ, on, stop, at_data as met, turn, onward, decision, stated}
use Rattle.steps.specs.Source.{steps}
use Rattle.steps.specs.Starts.{StartsAt, nowhere}
use Rattle.steps.proofs.Starts.{agreed, differ_says, starts_snoc, one_start}
use Rattle.steps.proofs.Firsts.{Seen, seen, Walked, past, here}
use Rattle.intel.specs.Placing.{Base, segment, linear, stated_by, base_behind, placed, does, act, base_after, intel, intel_by}
use Rattle.intel.specs.Records.{does_on}
use Rattle.intel.specs.Lines.{said_record, record_on, sets, latest, in_force, states, counts, data_records, starts, start_on, Counted, account, is_empty, goes_on, the_end, no_record, first_outside, start_differs}

-- ---- one line more behind lines

latest_snoc : (ahead : List (List ℕ)) (l : List ℕ) → latest (ahead ++ (l ∷ [])) ≡ or_else (sets (record_on l)) (latest ahead)
unfolding latest
latest_snoc [] l = sym (or_else_none (sets (record_on l)))
latest_snoc (x ∷ ahead) l =
    ap (λ (o : Option Base). or_else o (sets (record_on x))) (latest_snoc ahead l) ∙ or_else_assoc (sets (record_on l)) (latest ahead) (sets (record_on x))

in_force_snoc : (ahead : List (List ℕ)) (l : List ℕ) (o : Option Meaning) → record_on l ≡ o → in_force (ahead ++ (l ∷ [])) ≡ get_or (sets o) (in_force ahead)
unfolding in_force
in_force_snoc ahead l o e = rw (← e, latest_snoc ahead l) (getD_or_else (sets (record_on l)) (latest ahead) _)

in_force_behind : (ahead : List (List ℕ)) (l : List ℕ) (a : Meaning) → record_on l ≡ some a → in_force (ahead ++ (l ∷ [])) ≡ base_behind (in_force ahead) a
unfolding sets base_behind
in_force_behind ahead l a e = in_force_snoc ahead l (some a) e ∙ go a
  where
    go : (a : Meaning) → get_or (sets (some a)) (in_force ahead) ≡ base_behind (in_force ahead) a
    go (data_at offset bytes) = refl
    go end_of_file = refl
    go (extended_segment x) = refl
    go (start_segment cs ip) = refl
    go (extended_linear x) = refl
    go (start_linear x) = refl

records_snoc : (ahead : List (List ℕ)) (l : List ℕ) (o : Option Meaning) → record_on l ≡ o → data_records (ahead ++ (l ∷ [])) ≡ counts o + data_records ahead
unfolding data_records
records_snoc [] l o e = rw e
records_snoc (x ∷ ahead) l o e = let h = records_snoc ahead l o e in omega arith

pub counted_none : Counted nothing_yet []
unfolding data_records
counted_none = record { records = refl; start = nowhere tt }

-- a line that states no start
start_stays : (ahead : List (List ℕ)) (l : List ℕ) (o : Option Start) → StartsAt start_on ahead o → start_on l ≡ none → StartsAt start_on (ahead ++ (l ∷ [])) o
start_stays ahead l o h e =
    subst (StartsAt start_on (ahead ++ (l ∷ []))) (ap (or_else o) e ∙ or_else_none o) (starts_snoc start_on ahead l o h)

-- ---- the line that decides

module _ (inside : ℕ → Bool) where
  module _ (n : ℕ) (ahead : List (List ℕ)) (tally : Tally) (counted : Counted tally ahead) (l : List ℕ) (some_byte : l ≢ []) (ls : List (List ℕ)) where
    -- the steps of the lines after this one, from a base on
    abbrev rest : Base → List Step
    rest base = steps intel base (suc n) ls

    abbrev Behind : Base → Tally → Type 0
    Behind base t = Walked (account inside) (ahead ++ (l ∷ [])) (rest base) (suc n) ls (decision inside t (rest base))

    -- the steps of a record on line n, and those of the lines after it
    abbrev from_record : Base → Meaning → List Step
    from_record base m = does_on n base m ++ rest (base_behind base m)

    -- a record that states no start agrees with any
    no_start : (a : Meaning) → record_on l ≡ some a → starts (some a) ≡ none → start_on l ≡ none
    no_start a e q = ap starts e ∙ q

    agrees : start_on l ≡ none → (s first : Start) → start_on l ≡ some s → StartsAt start_on ahead (some first) → s ≡ first
    agrees q s first p h = let z : ◌≡◌ {A = ℕ} 0 1 = cc in absurd (omega arith)

    abbrev Later : Meaning → Type 0
    Later a = (t : Tally) → Counted t (ahead ++ (l ∷ [])) → Behind (base_behind (in_force ahead) a) t

    at_data : (offset : ℕ) (bytes : List ℕ) → record_on l ≡ some (data_at offset bytes)
        → Behind (in_force ahead) (one_more tally)
        → (o : Option ℕ) → Seen inside (placed (in_force ahead) offset 0 bytes) o
        → Walked (account inside) ahead (from_record (in_force ahead) (data_at offset bytes)) n (l ∷ ls) (onward n (met n o tally) (λ t'. decision inside t' (rest (in_force ahead))))
    unfolding does base_behind stated states stated_by starts
    at_data offset bytes e ih none s =
        past (account inside) ahead l _ (rest (in_force ahead)) n ls (goes_on (data_at offset bytes) some_byte e (λ q. let z : ◌≡◌ {A = ℕ} 0 1 = cc in omega arith) s (agrees (no_start _ e refl)))
        (rw e) (decision inside (one_more tally) (rest (in_force ahead))) ih
    at_data offset bytes e ih (some a) s =
        here (account inside) ahead l _ n ls _
        (rw (← s.there) (first_outside s.before s.after s.p (rw e s.whole) s.insides s.out))
        (λ t h. cc)

    -- a record that does nothing, and the base after it
    silent : (a : Meaning) (base : Base) → record_on l ≡ some a → a ≢ end_of_file → states ahead (some a) ≡ [] → counts (some a) ≡ 0 → starts (some a) ≡ none
        → ((t : Tally) → Counted t (ahead ++ (l ∷ [])) → Behind base t)
        → Walked (account inside) ahead (rest base) n (l ∷ ls) (decision inside tally (rest base))
    silent a base e ne st ct sn ih =
        past (account inside) ahead l (rest base) (rest base) n ls (goes_on a some_byte e ne (rw st tt) (agrees (no_start a e sn))) (rw (e, st)) (decision inside tally (rest base))
        (ih tally (record { records = omega (arith, counted.records, records_snoc ahead l (some a) e); start = start_stays ahead l tally.start counted.start (no_start a e sn) }))

    -- a record that states a start: the first is kept, and another decides
    at_start : (a : Meaning) (s : Start) (base : Base) → record_on l ≡ some a → a ≢ end_of_file → states ahead (some a) ≡ [] → counts (some a) ≡ 0 → starts (some a) ≡ some s
        → ((t : Tally) → Counted t (ahead ++ (l ∷ [])) → Behind base t) → (b : Bool) → differ tally.start (some s) ≡ b
        → Walked (account inside) ahead (step n (states-start s) ∷ rest base) n (l ∷ ls)
        (onward n (if b then stop (refused start_conflict n) else on (started s tally)) (λ t'. decision inside t' (rest base)))
    unfolding stated
    at_start a s base e ne st ct is ih true d =
        let (first, q, other) = (differ_says tally.start s).0 d in
        here (account inside) ahead l _ n ls _ (start_differs s first (ap starts e ∙ is) (rw q at counted.start) other) (λ t h. cc)
    at_start a s base e ne st ct is ih false d =
        past (account inside) ahead l _ (rest base) n ls (goes_on a some_byte e ne (rw st tt) same) (rw (e, st)) (decision inside (started s tally) (rest base))
        (ih (started s tally) (record {
          records = omega (arith, counted.records, records_snoc ahead l (some a) e);
          start = subst (StartsAt start_on (ahead ++ (l ∷ []))) (ap (or_else tally.start) (ap starts e ∙ is)) (starts_snoc start_on ahead l tally.start counted.start);
        }))
      where
        same : (s' first : Start) → start_on l ≡ some s' → StartsAt start_on ahead (some first) → s' ≡ first
        same s' first p h =
            let one : s ≡ s' = cc in
            let so_far : tally.start ≡ some first = one_start start_on ahead tally.start (some first) counted.start h in
            sym one ∙ agreed first s (rw so_far at d)

    at_record : (a : Meaning) → record_on l ≡ some a → Later a
        → Walked (account inside) ahead (from_record (in_force ahead) a) n (l ∷ ls) (decision inside tally (from_record (in_force ahead) a))
    unfolding decision turn does base_behind stated states stated_by counts starts
    at_record (data_at offset bytes) e ih =
        at_data offset bytes e
        (ih (one_more tally) (record { records = omega (arith, counted.records, records_snoc ahead l _ e); start = start_stays ahead l tally.start counted.start (no_start _ e refl) }))
        (outside inside (placed (in_force ahead) offset 0 bytes)) (seen inside (placed (in_force ahead) offset 0 bytes))
    at_record end_of_file e ih = here (account inside) ahead l _ n ls _ (the_end tally e counted) (λ t h. refl)
    at_record (extended_segment x) e ih = silent (extended_segment x) (segment x) e (λ q. let z : ◌≡◌ {A = ℕ} 0 1 = cc in omega arith) refl refl refl ih
    at_record (start_segment cs ip) e ih =
        at_start (start_segment cs ip) (cs_with_ip cs ip) (in_force ahead) e (λ q. let z : ◌≡◌ {A = ℕ} 0 1 = cc in omega arith) refl refl refl ih (differ tally.start (some (cs_with_ip cs ip))) refl
    at_record (extended_linear x) e ih = silent (extended_linear x) (linear x) e (λ q. let z : ◌≡◌ {A = ℕ} 0 1 = cc in omega arith) refl refl refl ih
    at_record (start_linear x) e ih =
        at_start (start_linear x) (linear_address x) (in_force ahead) e (λ q. let z : ◌≡◌ {A = ℕ} 0 1 = cc in omega arith) refl refl refl ih (differ tally.start (some (linear_address x))) refl

    -- what is said on the line
    at_said : (s : Said) → judge l ≡ s
        → ((t : Tally) → Counted t (ahead ++ (l ∷ [])) → Behind (in_force (ahead ++ (l ∷ []))) t)
        → let all = map (step n) (act (in_force ahead) s) ++ rest (base_after (in_force ahead) s) in Walked (account inside) ahead all n (l ∷ ls) (decision inside tally all)
    unfolding act base_after decision turn said_record
    at_said (says kind address payload) q ih =
        let h : record_on l ≡ some (meaning kind address payload) = ap said_record q in
        at_record (meaning kind address payload) h (rw (in_force_behind ahead l (meaning kind address payload) h) at ih)
    at_said (wrong r) q ih = here (account inside) ahead l _ n ls (refused r n) (no_record r some_byte q) (λ t h. cc)

  pub walked : (ls : List (List ℕ)) (n : ℕ) (ahead : List (List ℕ)) (tally : Tally) → Counted tally ahead
      → Walked (account inside) ahead (steps intel (in_force ahead) n ls) n ls (decision inside tally (steps intel (in_force ahead) n ls))
  unfolding steps intel_by decision said_record states counts sets starts
  walked [] n ahead tally e = tt
  walked ([] ∷ ls) n ahead tally e =
      let s = steps intel (in_force ahead) (suc n) ls in
      past (account inside) ahead [] s s n ls (is_empty refl) refl (decision inside tally s)
      (rw (in_force_snoc ahead [] none refl) at (walked ls (suc n) (ahead ++ ([] ∷ [])) tally (record { records = omega (arith, e.records, records_snoc ahead [] none refl); start = start_stays ahead [] tally.start e.start refl })))
  walked ((c ∷ l) ∷ ls) n ahead tally e = at_said n ahead tally e (c ∷ l) (λ z. nil≢cons (sym z)) ls (judge (c ∷ l)) refl (walked ls (suc n) (ahead ++ ((c ∷ l) ∷ [])))
