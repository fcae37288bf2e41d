-- A written object, read again: the same records with the same payloads, then "done".
-- Assumes nothing.
use Rattle.std.specs.Prelude.{ℕ, ◌+◌, ◌^◌, ◌≤◌, ◌<◌, ◌≡◌, List, [], ◌∷◌, length, take}
use Rattle.std.proofs.Math.Option.{some}
use Rattle.digits.specs.Common.{Every, Byte}
use Rattle.record.specs.declared.Record.{Record}
use Rattle.record.specs.Record.{meant}
use Rattle.record.specs.Meaning.{Meaning, data_at, end_of_file, extended_segment, start_segment, extended_linear, start_linear}
use Rattle.reader.specs.Told.{done, told}
use Rattle.reader.specs.Text.{default_options, new_state}
use Rattle.reader.specs.Calls.{Call, Given, NeverFull, Calls}
use Rattle.writer.specs.Text.{chars}
use Rattle.writer.specs.Object.{object, WriteObject}
use Rattle.writer.specs.Claims.{InRange}
use Rattle.codes.specs.Codes.{OK, DONE, Numbers, reading}
use Rattle.entries.specs.Entry.{records_of}
use Rattle.ihex.specs.Entries.{IhexCreateObjectFileRepresentation}
use Rattle.ihex.specs.Calls.{Returned}
use Rattle.ihex.specs.Readings.{FromTheBeginning}
use Rattle.std.specs.Prelude.{Ok}

-- calls were given these records, each with the same numbers and payload, and then "done"
abbrev pub Again : List Record → (pool : List ℕ) → List Call → List Given → Type 0
Again rs pool [] [] = Unit
Again rs pool [] (g ∷ gs) = ⊥
Again rs pool (call ∷ calls) [] = ⊥
Again [] pool (call ∷ calls) (g ∷ gs) = (g.told ≡ done) × Again [] pool calls gs
Again (r ∷ rs) pool (call ∷ calls) (g ∷ gs) =
    ((r' : Record) × (g.told ≡ told (Ok r')) × (meant r' g.pool ≡ meant r pool)) × Again rs pool calls gs

-- with both stops on, and room in the pool: no call is told PoolFull
abbrev pub RoundTrip : Type 0
RoundTrip =
    (rs : List Record) (pool cs : List ℕ) → Every InRange rs → Every Byte pool → object rs pool ≡ chars cs → length cs < 2 ^ 64
    → (calls : List Call) (givens : List Given) → NeverFull givens
    → Calls cs (new_state default_options) calls givens → Again rs pool calls givens

-- a call has room in its pool for a record: only data go there
abbrev pub RoomFor : Meaning → Call → Type 0
RoomFor (data_at offset bytes) call = call.at + length bytes ≤ length call.pool
RoomFor end_of_file call = Unit
RoomFor (extended_segment number) call = Unit
RoomFor (start_segment cs ip) call = Unit
RoomFor (extended_linear number) call = Unit
RoomFor (start_linear number) call = Unit

-- each call has room for its record
abbrev pub HasRoom : List Record → (pool : List ℕ) → List Call → Type 0
HasRoom rs pool [] = Unit
HasRoom [] pool (call ∷ calls) = Unit
HasRoom (r ∷ rs) pool (call ∷ calls) = RoomFor (meant r pool) call × HasRoom rs pool calls

-- the n bytes that a writer of an object says it wrote, read with both stops on and room in the pools: the same records with the same payloads, then "done"
abbrev pub WrittenReadsBack : Type 0
WrittenReadsBack =
    (rs : List Record) (pool out : List ℕ) (n : ℕ) (out' : List ℕ) → Every InRange rs → Every Byte pool → length out < 2 ^ 64 → WriteObject rs pool out (Ok n) out'
    → (calls : List Call) (givens : List Given) → HasRoom rs pool calls
    → Calls (take n out') (new_state default_options) calls givens → Again rs pool calls givens

-- ---- through the entry points

-- calls of `ihex_next` returned these records, each with the same numbers and payload, and then IHEX_DONE
abbrev pub ReturnedAgain : List Record → (pool : List ℕ) → List Call → List Returned → Type 0
ReturnedAgain rs pool [] [] = Unit
ReturnedAgain rs pool [] (g ∷ gs) = ⊥
ReturnedAgain rs pool (call ∷ calls) [] = ⊥
ReturnedAgain [] pool (call ∷ calls) (g ∷ gs) = (g.code ≡ DONE) × ReturnedAgain [] pool calls gs
ReturnedAgain (r ∷ rs) pool (call ∷ calls) (g ∷ gs) =
    ((r' : Record) × Numbers (reading (told (Ok r'))) g.code g.a g.b g.c × (meant r' g.pool ≡ meant r pool)) × ReturnedAgain rs pool calls gs

-- where `ihex_create_object_file_representation` returns IHEX_OK and n, its list is records, and the n bytes read by `ihex_next` with both
-- stops on and room in the pools are the same records with the same payloads, then IHEX_DONE
abbrev pub IhexWrittenReadsBack : Type 0
IhexWrittenReadsBack =
    (list pool out : List ℕ) (n : ℕ) (out' : List ℕ) → Every Byte list → Every Byte pool → length out < 2 ^ 64
    → IhexCreateObjectFileRepresentation list pool out OK n out'
    → (rs : List Record) × (records_of list ≡ some rs)
    × ((calls : List Call) (returns : List Returned) → HasRoom rs pool calls
    → FromTheBeginning default_options (take n out') calls returns → ReturnedAgain rs pool calls returns)
