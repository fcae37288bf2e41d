-- A list of records in bytes, written by the entry point and read by calls of `ihex_next`: the numbers of its records are in range, so what
-- was written reads back.
-- Assumes nothing.
use Prim.Native.Nat.{ℕ}
use mathlib.Core.Path.{◌≡◌, refl, sym, subst}
use mathlib.Core.Option.{Option, none, some, map}
use mathlib.Core.List.{List, [], ◌∷◌}
use native.Mathlib.Omega.{arith}
use lib.ListN.{take}
use Rattle.record.specs.declared.Record.{Record}
use Rattle.reader.specs.Calls.{Call, Given}
use Rattle.reader.specs.Text.{default_options}
use Rattle.writer.specs.Object.{object}
use Rattle.entries.specs.Entry.{records_of}
use Rattle.entries.proofs.Ranges.{list_in_range}
use Rattle.codes.specs.Codes.{OK}
use Rattle.ihex.specs.Entries.{WroteText}
use Rattle.ihex.specs.Calls.{Returned, all_in_numbers}
use Rattle.ihex.specs.Readings.{FromTheBeginning}
use Rattle.ihex.specs.RoundTrip.{Again, HasRoom, ReturnedAgain, IhexWrittenReadsBack}
use Rattle.ihex.proofs.Calls.{numbers_of}
use Rattle.ihex.proofs.Readings.{from_the_beginning}
use Rattle.ihex.proofs.Writes.{as_written}
use Rattle.ihex.proofs.RoundTrip.{written_reads_back}

returned_again : (rs : List Record) (pool : List ℕ) (calls : List Call) (givens : List Given) → Again rs pool calls givens → ReturnedAgain rs pool calls (all_in_numbers givens)
returned_again rs pool [] [] h = tt
returned_again rs pool [] (g ∷ gs) h = absurd h
returned_again [] pool (call ∷ calls) [] h = absurd h
returned_again (r ∷ rs) pool (call ∷ calls) [] h = absurd h
returned_again [] pool (call ∷ calls) (g ∷ gs) (t, h) = ((numbers_of t).code_is, returned_again [] pool calls gs h)
returned_again (r ∷ rs) pool (call ∷ calls) (g ∷ gs) ((r', t, p), h) = ((r', numbers_of t, p), returned_again rs pool calls gs h)

pub ihex_written_reads_back : IhexWrittenReadsBack
ihex_written_reads_back list pool out n out' bytes b small x = go (records_of list) refl x
  where
    go : (o : Option (List Record)) → records_of list ≡ o → WroteText (map (λ (rs : List Record). object rs pool) o) out OK n out'
        → (rs : List Record) × (records_of list ≡ some rs)
        × ((calls : List Call) (returns : List Returned) → HasRoom rs pool calls
        → FromTheBeginning default_options (take n out') calls returns → ReturnedAgain rs pool calls returns)
    go none e x = absurd (omega (arith, x.code_is))
    go (some rs) e x = (
      rs,
      e,
      λ calls returns room y.
          let (givens, row, q) = from_the_beginning default_options (take n out') calls returns y in
          subst (λ (gs : List Returned). ReturnedAgain rs pool calls gs) (sym q)
          (returned_again rs pool calls givens (written_reads_back rs pool out n out' (list_in_range list rs bytes e) b small (as_written (object rs pool) out n out' x) calls givens room row)),
    )
