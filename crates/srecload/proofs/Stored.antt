-- What a load of S-records stores, and refusal 17, proved from what the lines of a load put.
-- Assumes nothing.
use Rattle.std.proofs.Common.{◌≡◌, ℕ, suc, ◌+◌, Bool, List, [], ◌∷◌, ◌++◌, length, get_or, sym, refl, ap, ◌∙◌, subst, arith}
use mathlib.Core.Option.{Option, none, some}
use Rattle.digits.specs.Common.{Every}
use Rattle.record.specs.Refusals.{number_of, outside_window}
use Rattle.reader.specs.Lines.{lines}
use Rattle.srec.proofs.Standing.{Stands, stands, fault_few}
use Rattle.steps.specs.Steps.{Tally, Verdict, accepted, refused}
use Rattle.steps.specs.Account.{AllPass}
use Rattle.steps.proofs.Firsts.{AllInside}
use Rattle.steps.proofs.Puts.{Laid, laid_states, Holding, PutsAfter, owed_put, all_inside, first_out, owed_put_unique}
use Rattle.window.specs.Window.{within}
use Rattle.window.specs.Reasons.{bad_one, no_end, at_line}
use Rattle.window.proofs.Loads.{at_place}
use Rattle.srecload.specs.Placing.{SMeaning, s_header, s_data, s_count, s_end, s_address, s_states, s_records}
use Rattle.srecload.specs.Load.{load}
use Rattle.srecload.specs.Claims.{record_on, states, Passes, is_empty, is_header, lies_inside, counts_right, Stops, the_end, no_record, first_outside, count_differs, account, Why}
use Rattle.srecload.specs.Stored.{Puts, OwedUnique, NoEnd, Stored, StoredByLines, FirstOutside, OutsideByLines}
use Rattle.srecload.proofs.OneReason.{empty_none}
use Rattle.srecload.proofs.Claims.{reasons}

-- ---- what a line holds

abbrev held : Option SMeaning → Option Laid
held none = none
held (some s_header) = none
held (some (s_data address bytes)) = some (record { at = s_address address; bytes = bytes })
held (some (s_count stated)) = none
held (some (s_end address)) = none

held_states : (o : Option SMeaning) → states o ≡ laid_states (held o)
unfolding states s_states
held_states none = refl
held_states (some s_header) = refl
held_states (some (s_data address bytes)) = refl
held_states (some (s_count stated)) = refl
held_states (some (s_end address)) = refl

abbrev holding : Holding
holding =
    record {
      holds = λ ahead line. held (record_on line);
      states = λ ahead line. states (record_on line);
      empty_none = λ ahead. ap held (empty_none [] refl);
      same = λ ahead line. held_states (record_on line);
    }

-- what lines hold is what they put
module _ (ls : List (List ℕ)) (n i a b : ℕ) where
  from_puts : Puts ls n i a b → PutsAfter holding [] ls a n i b
  unfolding s_address
  from_puts p = record { laid = record { at = s_address p.start; bytes = p.bytes }; there = ap held p.there; inside = p.inside; has = p.holds; lies = sym p.at }

  to_puts : PutsAfter holding [] ls a n i b → Puts ls n i a b
  unfolding s_address
  to_puts p = go (record_on (get_or ls n [])) refl p.there
    where
      go : (o : Option SMeaning) → record_on (get_or ls n []) ≡ o → held o ≡ some p.laid → Puts ls n i a b
      go none e q = let z : ◌≡◌ {A = ℕ} 0 1 = cc in absurd (omega arith)
      go (some s_header) e q = let z : ◌≡◌ {A = ℕ} 0 1 = cc in absurd (omega arith)
      go (some (s_data address bytes)) e q =
          let same : record { at = s_address address; bytes = bytes } ≡ p.laid = cc in
          let bs : bytes ≡ p.laid.bytes = ap (λ (x : Laid). x.bytes) same in
          let lies : s_address address i ≡ a = ap (λ (x : Laid). x.at i) same ∙ p.lies in
          record { start = address; bytes = bytes; there = e; inside = rw bs p.inside; holds = rw bs p.has; at = sym lies }
      go (some (s_count stated)) e q = let z : ◌≡◌ {A = ℕ} 0 1 = cc in absurd (omega arith)
      go (some (s_end address)) e q = let z : ◌≡◌ {A = ℕ} 0 1 = cc in absurd (omega arith)

-- the bytes of a line that passes lie inside
lie : (inside : ℕ → Bool) (ahead : List (List ℕ)) (l : List ℕ) → Passes inside ahead l → AllInside inside (laid_states (held (record_on l)))
lie inside ahead l (is_empty e) = rw (empty_none l e) tt
lie inside ahead l (is_header e) = rw e tt
lie inside ahead l (lies_inside address bytes e i) = rw e i
lie inside ahead l (counts_right c e h) = rw e tt

-- ---- a load that is accepted

-- each line that passes is no end
pub none_ends : (inside : ℕ → Bool) (ahead ls : List (List ℕ)) → AllPass (account inside) ahead ls → Every NoEnd ls
none_ends inside ahead [] p = tt
none_ends inside ahead (l ∷ ls) (p, ps) = (go p, none_ends inside (ahead ++ (l ∷ [])) ls ps)
  where
    go : Passes inside ahead l → NoEnd l
    go (is_empty e) a q = let x = empty_none l e in let z : ◌≡◌ {A = ℕ} 0 1 = cc in omega arith
    go (is_header e) a q = let z : ◌≡◌ {A = ℕ} 0 1 = cc in omega arith
    go (lies_inside address bytes e i) a q = let z : ◌≡◌ {A = ℕ} 0 1 = cc in omega arith
    go (counts_right c e h) a q = let z : ◌≡◌ {A = ℕ} 0 1 = cc in omega arith

-- and one that accepts is
end_stops : (inside : ℕ → Bool) (ahead : List (List ℕ)) (l : List ℕ) (n : ℕ) (v : Verdict) (k : Tally) → Stops inside ahead l n v → v ≡ accepted k
    → (address : ℕ) × (record_on l ≡ some (s_end address))
end_stops inside ahead l n v k (the_end a e) q = (a, e)
end_stops inside ahead l n v k (no_record r b e) q = let z : ◌≡◌ {A = ℕ} 0 1 = cc in absurd (omega arith)
end_stops inside ahead l n v k (first_outside before after p e i o) q = let z : ◌≡◌ {A = ℕ} 0 1 = cc in absurd (omega arith)
end_stops inside ahead l n v k (count_differs c e d) q = let z : ◌≡◌ {A = ℕ} 0 1 = cc in absurd (omega arith)

pub stored_by_lines : StoredByLines
stored_by_lines text first page marks k e = go (load text first page marks).answer (reasons text first page marks) e
  where
    inside : ℕ → Bool
    inside = within first (length page)

    go : (a : Verdict) → Why text first page marks a → a ≡ accepted k → Stored text first page (load text first page marks)
    go a (bad_one w) q = let z : ◌≡◌ {A = ℕ} 0 1 = cc in absurd (omega arith)
    go a (no_end w all) q = let z : ◌≡◌ {A = ℕ} 0 1 = cc in absurd (omega arith)
    go a (at_line n v' w d) q =
        record {
          ahead = d.ahead;
          end = d.line;
          later = d.later;
          whole = d.whole;
          ends = end_stops _ d.ahead d.line n v' k d.stops q;
          none_ahead = none_ends _ [] d.ahead d.pass;
          inside = λ m i a' b p. all_inside holding (account inside) inside (lie inside) [] d.ahead d.pass m i a' b (from_puts d.ahead m i a' b p);
          places = λ i h. rw ((at_place s_records text first page marks k e i h).0, (at_place s_records text first page marks k e i h).1) (rw (d.stated k q)
              (owed_put holding d.ahead (first + i) (get_or page i 0) (λ n i' b. Puts d.ahead n i' (first + i) b)
              (λ n i' b. to_puts d.ahead n i' (first + i) b) (λ n i' b. from_puts d.ahead n i' (first + i) b)));
        }

pub owed_unique : OwedUnique
owed_unique ls a old m m' b b' x y =
    owed_put_unique (λ n i c. Puts ls n i a c)
    (λ n i c c' p q.
    let same : some (s_data p.start p.bytes) ≡ some (s_data q.start q.bytes) = sym p.there ∙ q.there in
    let bytes : p.bytes ≡ q.bytes = cc in
    sym p.holds ∙ ap (λ (bs : List ℕ). get_or bs i 0) bytes ∙ q.holds)
    old m m' b b' x y

-- ---- refusal 17

pub outside_by_lines : OutsideByLines
outside_by_lines text first page marks address line e = go (load text first page marks).answer (reasons text first page marks) e
  where
    inside : ℕ → Bool
    inside = within first (length page)

    stops : (ahead : List (List ℕ)) (l : List ℕ) (later : List (List ℕ)) (n : ℕ) (a : Verdict) → lines text ≡ ahead ++ (l ∷ later) → n ≡ suc (length ahead)
        → AllPass (account inside) [] ahead → Stops inside ahead l n a → a ≡ refused (outside_window address) line → FirstOutside (lines text) first (length page) address line
    stops ahead l later n a w k x (the_end _ s) q = let z : ◌≡◌ {A = ℕ} 0 1 = cc in absurd (omega arith)
    stops ahead l later n a w k x (no_record r b s) q =
        let few = fault_few (subst (Stands l) s (stands l)) in
        let r-is : r ≡ outside_window address = cc in
        let many = ap number_of r-is in
        absurd (omega arith)
    stops ahead l later n a w k x (first_outside before after p s i o) q =
        let f = first_out holding (account inside) inside (lie inside) ahead l later x before after p i o s in
        let at : p.address ≡ address = cc in
        let on : n ≡ line = cc in
        let ls = ahead ++ (l ∷ later) in
        rw (w, ← at, ← on) (record {
          n = f.n;
          i = f.i;
          byte = f.byte;
          number = k ∙ f.number;
          puts = to_puts ls f.n f.i p.address f.byte f.puts;
          out = f.out;
          earlier = λ m j a b y. f.earlier m j a b (from_puts ls m j a b y);
        })
    stops ahead l later n a w k x (count_differs c s d) q = let z : ◌≡◌ {A = ℕ} 0 1 = cc in absurd (omega arith)

    go : (a : Verdict) → Why text first page marks a → a ≡ refused (outside_window address) line → FirstOutside (lines text) first (length page) address line
    go a (bad_one w) q = let z : ◌≡◌ {A = ℕ} 0 1 = cc in absurd (omega arith)
    go a (no_end w all) q = let z : ◌≡◌ {A = ℕ} 0 1 = cc in absurd (omega arith)
    go a (at_line n v w d) q = stops d.ahead d.line d.later n v d.whole d.number d.pass d.stops q
