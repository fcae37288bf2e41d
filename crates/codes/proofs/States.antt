-- States and places come back from their numbers, and of the flags only the first bits are read.
-- Assumes nothing.
use Prim.Native.Nat.{ℕ, ◌+◌, ◌*◌, ◌/◌, ◌%◌, ◌≤◌}
use mathlib.Core.Path.{◌≡◌, refl, ◌∙◌, ap}
use mathlib.Core.Bool.{Bool, true, false}
use native.Mathlib.Omega.{arith}
use native.Mathlib.Nat.{mul-add-mod_self_left}
use Rattle.std.specs.Prelude.{if◌then◌else◌}
use Rattle.reader.specs.declared.State.{State}
use Rattle.chunks.specs.declared.Chunks.{Chunks}
use Rattle.chunks.specs.declared.Place.{Place}
use Rattle.chunks.specs.declared.Place.TheVariants.{Nowhere, InChunk, InCarry}
use Rattle.codes.specs.States.{state_of, flags_of, chunks_of, chunk_flags_of, Spotted, place_of}
use Rattle.codes.specs.Claims.{TextStateReturns, StateReturns, PlaceReturns, ThreeFlagsRead, FourFlagsRead}

pub place_is : (p : Place) {lies from len : ℕ} → Spotted p lies from len → place_of lies from len ≡ p
place_is Nowhere x = rw x.lies_is
place_is (InChunk from len) x = rw (x.lies_is, x.from_is, x.len_is)
place_is (InCarry len) x = rw (x.lies_is, x.len_is)

module _ (position line empties used skipped : ℕ) where
  abbrev state_with : (first eof finished cr : Bool) → Chunks
  state_with first eof finished cr =
      record {
        position = position;
        line = line;
        empties = empties;
        used = used;
        skipped = skipped;
        cr = cr;
        finished = finished;
        options = record { stop_after_first_error = first; stop_after_eof = eof };
      }

  flags_return : (first eof finished cr : Bool)
      → chunks_of position line empties used skipped (chunk_flags_of (state_with first eof finished cr)) ≡ state_with first eof finished cr
  flags_return true true true true = refl
  flags_return true true true false = refl
  flags_return true true false true = refl
  flags_return true true false false = refl
  flags_return true false true true = refl
  flags_return true false true false = refl
  flags_return true false false true = refl
  flags_return true false false false = refl
  flags_return false true true true = refl
  flags_return false true true false = refl
  flags_return false true false true = refl
  flags_return false true false false = refl
  flags_return false false true true = refl
  flags_return false false true false = refl
  flags_return false false false true = refl
  flags_return false false false false = refl

pub state_returns : StateReturns
state_returns s =
    flags_return s.position s.line s.empties s.used s.skipped s.options.stop_after_first_error s.options.stop_after_eof s.finished s.cr

pub place_returns : PlaceReturns
place_returns p = place_is p (record { lies_is = refl; from_is = refl; len_is = refl })

-- as a reader of chunks that has begun nothing
abbrev with_nothing : State → Chunks
with_nothing s =
    record { position = s.position; line = s.line; empties = 0; used = 0; skipped = 0; cr = false; finished = s.finished; options = s.options }

pub text_state_returns : TextStateReturns
text_state_returns s =
    let same : flags_of s ≡ chunk_flags_of (with_nothing s) = omega arith in
    ap (state_of s.position s.line) same
    ∙ ap (λ (x : Chunks). record { position = x.position; line = x.line; finished = x.finished; options = x.options }) (state_returns (with_nothing s))

-- ---- the flags

-- a flag's share of the flags
pub share : (b : Bool) (n : ℕ) → (if b then n else 0) ≤ n
share true n = omega arith
share false n = omega arith

pub same_bit : (n k m : ℕ) → n ≡ 2 * k + m → n % 2 ≡ m % 2
same_bit n k m e = ap (λ (n : ℕ). n % 2) e ∙ mul-add-mod_self_left 2 k m

pub four_flags_read : FourFlagsRead
four_flags_read position line empties used skipped flags =
    let low = flags % 16 in
    let first : flags % 2 ≡ low % 2 = omega arith in
    let second : flags / 2 % 2 ≡ low / 2 % 2 = same_bit (flags / 2) (4 * (flags / 16)) (low / 2) (omega arith) in
    let third : flags / 4 % 2 ≡ low / 4 % 2 = same_bit (flags / 4) (2 * (flags / 16)) (low / 4) (omega arith) in
    let fourth : flags / 8 % 2 ≡ low / 8 % 2 = same_bit (flags / 8) (flags / 16) (low / 8) (omega arith) in
    rw (first, second, third, fourth)

pub three_flags_read : ThreeFlagsRead
three_flags_read position line flags =
    let low = flags % 8 in
    let first : flags % 2 ≡ low % 2 = omega arith in
    let second : flags / 2 % 2 ≡ low / 2 % 2 = same_bit (flags / 2) (2 * (flags / 8)) (low / 2) (omega arith) in
    let third : flags / 4 % 2 ≡ low / 4 % 2 = same_bit (flags / 4) (flags / 8) (low / 4) (omega arith) in
    rw (first, second, third)
