-- A written object is read again: its row is its records, so each call is given the next. What a writer left in the output is that text, and a call with room for its record is not told PoolFull.
-- Assumes nothing.
use Prim.Native.Nat.{ℕ, suc, ◌+◌, ◌^◌, ◌≤◌, ◌<◌}
use mathlib.Core.Path.{◌≡◌, refl, sym, ◌∙◌, ap, subst}
use mathlib.Core.Bool.{Bool, true, false}
use mathlib.Core.List.{List, [], ◌∷◌}
use native.Mathlib.Omega.{arith}
use lib.Dec.{leb}
use lib.ListN.{length, take, length-take}
use borrow.Author.Tests.{le-leb, leb-true}
use Rattle.digits.specs.Common.{Every, pasted}
use Rattle.std.specs.Prelude.{if◌then◌else◌}
use Rattle.record.specs.Refusals.{pool_full}
use Rattle.record.specs.declared.Record.{Record}
use Rattle.record.specs.declared.Record.TheVariants.{Data, EndOfFile, ExtendedSegmentAddress, StartSegmentAddress, ExtendedLinearAddress, StartLinearAddress}
use Rattle.record.specs.Record.{meant}
use Rattle.record.specs.Meaning.{Meaning, data_at, end_of_file, extended_segment, start_segment, extended_linear, start_linear, meaning}
use Rattle.record.specs.Written.{kind_of, address_of, payload_of, Sayable}
use Rattle.digits.proofs.Tests.{both_ways}
use Rattle.digits.proofs.Pasting.{pasted_part}
use Rattle.record.proofs.Writing.{reads_back}
use Rattle.reader.specs.Told.{gives, refuses, told}
use Rattle.reader.specs.Answer.{given, kept, answered, poured}
use Rattle.reader.specs.Row.{Numbered}
use Rattle.reader.specs.Text.{is_full, ends_row, default_options}
use Rattle.reader.specs.Calls.{Call, Given, NeverFull, replies, one_by_one}
use Rattle.reader.proofs.Texts.{rows, in_order}
use Rattle.writer.specs.Object.{object}
use Rattle.writer.proofs.Answers.{stands_there}
use Rattle.writer.proofs.Objects.{object_whole}
use Rattle.page.specs.Spoken.{said_of, spoken}
use Rattle.page.proofs.Spoken.{every_sayable, said_in, spoken_row}
use Rattle.ihex.specs.RoundTrip.{Again, RoundTrip, HasRoom, WrittenReadsBack, RoomFor}
use Rattle.std.specs.Prelude.{Ok}

-- ---- the calls

-- the record that a call is given for a meaning, with its payload in the pool
given_again : (m : Meaning) (pool : List ℕ) (at : ℕ) → is_full (given m (length pool) at) ≡ false
    → (r : Record) × (given m (length pool) at ≡ told (Ok r)) × (meant r (kept m pool at) ≡ m)
unfolding is_full given kept
given_again (data_at offset bytes) pool at h = room_or_not (leb (at + length bytes) (length pool)) refl h
  where
    room_or_not : (b : Bool) → leb (at + length bytes) (length pool) ≡ b → is_full (if b then gives 0 (offset ∷ at ∷ length bytes ∷ []) else refuses pool_full) ≡ false
        → (r : Record) × ((if b then gives 0 (offset ∷ at ∷ length bytes ∷ []) else refuses pool_full) ≡ told (Ok r)) × (meant r (if b then pasted pool at bytes else pool) ≡ data_at offset bytes)
    room_or_not true e h =
        let fits : at + length bytes ≤ length pool = leb-true (at + length bytes) (length pool) e in
        (Data offset at (length bytes), refl, ap (data_at offset) (pasted_part pool at bytes fits))
    room_or_not false e h = let z : ◌≡◌ {A = ℕ} 0 1 = cc in absurd (omega arith)
given_again end_of_file pool at h = (EndOfFile, refl, refl)
given_again (extended_segment n) pool at h = (ExtendedSegmentAddress n, refl, refl)
given_again (start_segment cs ip) pool at h = (StartSegmentAddress cs ip, refl, refl)
given_again (extended_linear n) pool at h = (ExtendedLinearAddress n, refl, refl)
given_again (start_linear n) pool at h = (StartLinearAddress n, refl, refl)

again : (last n : ℕ) (rs : List Record) (pool : List ℕ) (calls : List Call) → Every (λ r. Sayable (meant r pool)) rs
    → NeverFull (one_by_one last (spoken n rs pool) calls) → Again rs pool calls (one_by_one last (spoken n rs pool) calls)
unfolding one_by_one spoken answered poured
again last n [] pool [] h l = tt
again last n (r ∷ rs) pool [] h l = tt
again last n [] pool (call ∷ calls) h (l, ls) = (refl, again last n [] pool calls tt ls)
again last n (r ∷ rs) pool (call ∷ calls) (h, hs) (l, ls) =
    let m = meant r pool in
    let (r', t, p) = given_again (meaning (kind_of m) (address_of m) (payload_of m)) call.pool call.at l in
    ((r', t, p ∙ (reads_back m h).means), again n (suc n) rs pool calls hs ls)

pub round_trip : RoundTrip
round_trip rs pool cs i b e small calls givens l c =
    let w = object_whole rs pool cs e in
    let q : givens ≡ one_by_one 0 (spoken 1 rs pool) calls = in_order default_options cs small calls givens l c ∙ ap (λ (x : List Numbered). one_by_one 0 x calls) (spoken_row rs pool cs i b e) in
    subst (λ (gs : List Given). Again rs pool calls gs) (sym q)
    (again 0 1 rs pool calls (every_sayable rs pool i b w.fine) (subst NeverFull q l))

-- ---- room in the pools

given_fits : (m : Meaning) (call : Call) → RoomFor m call → is_full (given m (length call.pool) call.at) ≡ false
unfolding is_full given
given_fits (data_at offset bytes) call h = rw (le-leb (call.at + length bytes) (length call.pool) h)
given_fits end_of_file call h = refl
given_fits (extended_segment number) call h = refl
given_fits (start_segment cs ip) call h = refl
given_fits (extended_linear number) call h = refl
given_fits (start_linear number) call h = refl

done_fits : (last : ℕ) (calls : List Call) → NeverFull (replies default_options last [] calls)
unfolding replies is_full
done_fits last [] = tt
done_fits last (call ∷ calls) = (refl, done_fits last calls)

-- the answer that ends the row leaves only "done", and the others leave the records behind
all_fit : (last n : ℕ) (rs : List Record) (pool : List ℕ) (calls : List Call) → Every (λ r. Sayable (meant r pool)) rs → HasRoom rs pool calls
    → NeverFull (replies default_options last (spoken n rs pool) calls)
unfolding replies spoken answered
all_fit last n [] pool [] h f = tt
all_fit last n (r ∷ rs) pool [] h f = tt
all_fit last n [] pool (call ∷ calls) h f = done_fits last (call ∷ calls)
all_fit last n (r ∷ rs) pool (call ∷ calls) (h, hs) (f, fs) =
    let m = meant r pool in
    let g : is_full (answered (said_of m) (length call.pool) call.at) ≡ false =
    ap (λ (x : Meaning). is_full (given x (length call.pool) call.at)) (reads_back m h).means ∙ given_fits m call f in
    rw g (
      g,
      both_ways (λ b. NeverFull (replies default_options n (if b then [] else spoken (suc n) rs pool) calls))
          (ends_row default_options (answered (said_of m) (length call.pool) call.at)) (done_fits n calls) (all_fit n (suc n) rs pool calls hs fs),
    )

pub written_reads_back : WrittenReadsBack
written_reads_back rs pool out n out' i b small w calls givens room c =
    let cs : List ℕ = take n out' in
    let (e, fits) = stands_there (object rs pool) out n out' w in
    let o = object_whole rs pool cs e in
    let h = every_sayable rs pool i b o.fine in
    let short : length cs < 2 ^ 64 = omega (arith, length-take n out') in
    let q : givens ≡ replies default_options 0 (spoken 1 rs pool) calls =
    rows default_options cs short calls givens c ∙ ap (λ (x : List Numbered). replies default_options 0 x calls) (said_in rs pool cs h o.lined) in
    round_trip rs pool cs i b e short calls givens (subst NeverFull (sym q) (all_fit 0 1 rs pool calls h room)) c
