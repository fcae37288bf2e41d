-- Demand 3 and refusal 17 by Intel's sums, proved from what the lines of a load put.
-- Assumes nothing.
use Rattle.std.proofs.Common.{◌≡◌, ℕ, suc, ◌+◌, Bool, List, [], ◌∷◌, ◌++◌, length, get_or, ap, ◌∙◌, subst, arith}
use Rattle.record.specs.Refusals.{number_of, outside_window, start_conflict}
use Rattle.record.proofs.Standing.{Stands, stands, fault_few}
use Rattle.reader.specs.Lines.{lines}
use Rattle.steps.specs.Steps.{Verdict, accepted, refused}
use Rattle.steps.specs.Account.{AllPass}
use Rattle.steps.specs.Puts as puts
use Rattle.steps.proofs.Puts.{owed_put, all_inside, first_out, owed_put_unique}
use Rattle.window.specs.Window.{within}
use Rattle.window.specs.Reasons.{bad_one, no_end, at_line}
use Rattle.intel.specs.Placing.{intel}
use Rattle.loader.specs.Load.{load}
use Rattle.intel.specs.Lines.{Stops, the_end, no_record, first_outside, start_differs, account}
use Rattle.loader.specs.Claims.{Why}
use Rattle.intel.proofs.Puts.{holding, from_puts, to_puts, lie, PutThere, one_byte, as_last, of_last, none_ends, end_stops}
use Rattle.loader.specs.Segments.{Owed, OwedUnique, Stored, StoredByIntel, FirstOutside, OutsideByIntel}
use Rattle.window.proofs.Loads.{at_place}
use Rattle.loader.proofs.Claims.{reasons}

-- ---- a load that is accepted

-- what is owed to a place, in Intel's names
module _ (ls : List (List ℕ)) (a : ℕ) where
  as_owed : {old m b : ℕ} → puts.OwedPut (PutThere ls a) old m b → Owed ls a old m b
  as_owed x = record { one_or_zero = x.one_or_zero; marked_iff_put = x.marked_iff_put; marked_holds = λ e. as_last ls a (x.marked_holds e); unmarked_keeps = x.unmarked_keeps }

  of_owed : {old m b : ℕ} → Owed ls a old m b → puts.OwedPut (PutThere ls a) old m b
  of_owed x = record { one_or_zero = x.one_or_zero; marked_iff_put = x.marked_iff_put; marked_holds = λ e. of_last ls a (x.marked_holds e); unmarked_keeps = x.unmarked_keeps }

pub stored_by_intel : StoredByIntel
stored_by_intel text first page marks k e = go (load text first page marks).answer (reasons text first page marks) e
  where
    inside : ℕ → Bool
    inside = within first (length page)

    go : (a : Verdict) → Why text first page marks a → a ≡ accepted k → Stored text first page (load text first page marks)
    go a (bad_one w) q = let z : ◌≡◌ {A = ℕ} 0 1 = cc in absurd (omega arith)
    go a (no_end w all) q = let z : ◌≡◌ {A = ℕ} 0 1 = cc in absurd (omega arith)
    go a (at_line n v' w d) q =
        record {
          ahead = d.ahead;
          end = d.line;
          later = d.later;
          whole = d.whole;
          ends = end_stops _ d.ahead d.line n v' k d.stops q;
          none_ahead = none_ends _ [] d.ahead d.pass;
          inside = λ n' dri a' b p. all_inside holding (account inside) inside (lie inside) [] d.ahead d.pass n' dri a' b (from_puts d.ahead n' dri a' b p);
          places = λ i h. rw ((at_place intel text first page marks k e i h).0, (at_place intel text first page marks k e i h).1) (rw (d.stated k q)
              (as_owed d.ahead (first + i) (owed_put holding d.ahead (first + i) (get_or page i 0) (PutThere d.ahead (first + i))
              (λ m j b. to_puts d.ahead m j (first + i) b) (λ m j b. from_puts d.ahead m j (first + i) b))));
        }

pub owed_unique : OwedUnique
owed_unique ls a old m m' b b' x y = owed_put_unique (PutThere ls a) (one_byte ls a) old m m' b b' (of_owed ls a x) (of_owed ls a y)

-- ---- refusal 17

pub outside_by_intel : OutsideByIntel
outside_by_intel text first page marks address line e = go (load text first page marks).answer (reasons text first page marks) e
  where
    inside : ℕ → Bool
    inside = within first (length page)

    stops : (ahead : List (List ℕ)) (l : List ℕ) (later : List (List ℕ)) (n : ℕ) (a : Verdict) → lines text ≡ ahead ++ (l ∷ later) → n ≡ suc (length ahead)
        → AllPass (account inside) [] ahead → Stops inside ahead l n a → a ≡ refused (outside_window address) line → FirstOutside (lines text) first (length page) address line
    stops ahead l later n a w k x (the_end tally s c) q = let z : ◌≡◌ {A = ℕ} 0 1 = cc in absurd (omega arith)
    stops ahead l later n a w k x (no_record r b s) q =
        let few = fault_few (subst (Stands l) s (stands l)) in
        let r-is : r ≡ outside_window address = cc in
        let many = ap number_of r-is in
        absurd (omega arith)
    stops ahead l later n a w k x (first_outside before after p s i o) q =
        let f = first_out holding (account inside) inside (lie inside) ahead l later x before after p i o s in
        let at : p.address ≡ address = cc in
        let on : n ≡ line = cc in
        let ls = ahead ++ (l ∷ later) in
        rw (w, ← at, ← on) (record {
          n = f.n;
          dri = f.i;
          byte = f.byte;
          number = k ∙ f.number;
          puts = to_puts ls f.n f.i p.address f.byte f.puts;
          out = f.out;
          earlier = λ m j a b y. f.earlier m j a b (from_puts ls m j a b y);
        })
    stops ahead l later n a w k x (start_differs s first e h d) q = let is : start_conflict ≡ outside_window address = cc in absurd (omega (arith, ap number_of is))

    go : (a : Verdict) → Why text first page marks a → a ≡ refused (outside_window address) line → FirstOutside (lines text) first (length page) address line
    go a (bad_one w) q = let z : ◌≡◌ {A = ℕ} 0 1 = cc in absurd (omega arith)
    go a (no_end w all) q = let z : ◌≡◌ {A = ℕ} 0 1 = cc in absurd (omega arith)
    go a (at_line n v w d) q = stops d.ahead d.line d.later n v d.whole d.number d.pass d.stops q
