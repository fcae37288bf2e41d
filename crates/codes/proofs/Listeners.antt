-- A listener comes back from its numbers, and of its flags only the first seven bits are read.
-- Assumes nothing.
use Prim.Native.Nat.{ℕ, ◌+◌, ◌*◌, ◌/◌, ◌%◌, ◌≤◌, ◌<◌}
use mathlib.Core.Path.{◌≡◌, refl, sym, ap, ◌∙◌}
use mathlib.Core.Bool.{Bool, true, false}
use native.Mathlib.Omega.{arith}
use lib.Dec.{eqb}
use borrow.Author.Tests.{ne_eqb}
use Rattle.std.specs.Prelude.{if◌then◌else◌}
use Rattle.steps.specs.Aliases.{Stated as Start}
use Rattle.steps.specs.declared.Start.TheVariants.{Segment, Linear}
use Rattle.loader.specs.declared.Base.{Base}
use Rattle.loader.specs.declared.Base.TheVariants as base
use Rattle.intake.specs.declared.Kind.{Kind}
use Rattle.intake.specs.declared.Kind.TheVariants.{Hex, SRecords}
use Rattle.intake.specs.declared.Intake.{Intake}
use Rattle.listen.specs.declared.Listener.{Listener}
use Rattle.listen.specs.declared.Listener.TheVariants.{Within}
use Rattle.codes.specs.declared.Stand.{Stand}
use Rattle.codes.specs.States.{bit}
use Rattle.codes.specs.Listeners.{kind_of, kind_flag, base_of, base_flag, base_number, start_flag, is_segment, is_linear, start_number, StartNumber, listener_of, within_flags, stand, stands_for, StandOf}
use Rattle.codes.specs.Claims.{SevenFlagsRead}
use Rattle.codes.proofs.States.{same_bit}
use Rattle.std.specs.Prelude.{None, Some}

-- ---- the bits of the flags

-- a bit as a number
abbrev one : Bool → ℕ
one true = 1
one false = 0

one_small : (b : Bool) → one b ≤ 1
one_small true = omega arith
one_small false = omega arith

-- a test for a number gives the bit back
bit_is : (n : ℕ) (b : Bool) → n ≡ one b → eqb n 1 ≡ b
bit_is n true e = rw e
bit_is n false e = rw e

tail_is : (n : ℕ) (b : Bool) → n ≡ 1 + one b → eqb n 2 ≡ b
tail_is n true e = rw e
tail_is n false e = rw e

abbrev is_srecords : Kind → Bool
is_srecords Hex = false
is_srecords SRecords = true

abbrev is_linear_base : Base → Bool
is_linear_base (base.Segment n) = false
is_linear_base (base.Linear n) = true

-- each part's share of the flags
set_share : (b : Bool) (value : ℕ) → (if b then value else 0) ≡ value * one b
set_share true value = omega arith
set_share false value = omega arith

kind_share : (k : Kind) → kind_flag k ≡ 4 * one (is_srecords k)
kind_share Hex = refl
kind_share SRecords = refl

base_share : (b : Base) → base_flag b ≡ 16 * one (is_linear_base b)
base_share (base.Segment n) = refl
base_share (base.Linear n) = refl

start_share : (s : Start) → start_flag s ≡ 32 * one (is_segment s) + 64 * one (is_linear s)
start_share None = refl
start_share (Some (Segment cs ip)) = refl
start_share (Some (Linear address)) = refl

-- a number by its place and five bits
record Digits (n place k c b e l : ℕ) : Type 0 where
  place_is : n % 4 ≡ place
  kind_is : n / 4 % 2 ≡ k
  cr_is : n / 8 % 2 ≡ c
  base_is : n / 16 % 2 ≡ b
  segment_is : n / 32 % 2 ≡ e
  linear_is : n / 64 % 2 ≡ l

digits : (n place k c b e l : ℕ) → place < 4 → k ≤ 1 → c ≤ 1 → b ≤ 1 → e ≤ 1 → l ≤ 1
    → n ≡ place + (4 * k + (8 * c + (16 * b + (32 * e + 64 * l)))) → Digits n place k c b e l
digits n place k c b e l hp hk hc hb he hl w =
    record { place_is = omega arith; kind_is = omega arith; cr_is = omega arith; base_is = omega arith; segment_is = omega arith; linear_is = omega arith }

-- the flags of a dump by its parts
within_digits : (s : Intake)
    → Digits (within_flags s) (1 + one s.tail) (one (is_srecords s.kind)) (one s.cr) (one (is_linear_base s.base))
    (one (is_segment s.tally.start)) (one (is_linear s.tally.start))
within_digits s =
    let tail-small = one_small s.tail in
    digits _ _ _ _ _ _ _ (omega arith) (one_small (is_srecords s.kind)) (one_small s.cr) (one_small (is_linear_base s.base))
    (one_small (is_segment s.tally.start)) (one_small (is_linear s.tally.start))
    (omega (arith, set_share s.tail 1, kind_share s.kind, set_share s.cr 8, base_share s.base, start_share s.tally.start))

-- ---- a listener comes back from its numbers

kind_returns : (k : Kind) (flags : ℕ) → bit flags 4 ≡ is_srecords k → kind_of flags ≡ k
kind_returns Hex flags e = rw e
kind_returns SRecords flags e = rw e

base_returns : (b : Base) (flags : ℕ) → bit flags 16 ≡ is_linear_base b → base_of flags (base_number b) ≡ b
base_returns (base.Segment n) flags e = rw e
base_returns (base.Linear n) flags e = rw e

-- in a dump, or passing over
back : (s : Intake) (flags begin : ℕ) → flags ≡ within_flags s → StartNumber s.tally.start begin
    → listener_of flags s.skipped (base_number s.base) begin s.line s.used s.tally.records ≡ Within s
back s flags begin e h =
    let d = rw (sym e) at (within_digits s) in
    let small = one_small s.tail in
    let away : eqb (flags % 4) 0 ≡ false = ne_eqb (flags % 4) 0 (λ z. omega arith) in
    let unready : eqb (flags % 4) 3 ≡ false = ne_eqb (flags % 4) 3 (λ z. omega arith) in
    let kind = kind_returns s.kind flags (bit_is _ (is_srecords s.kind) d.kind_is) in
    let tail = tail_is _ s.tail d.place_is in
    let cr = bit_is _ s.cr d.cr_is in
    let base = base_returns s.base flags (bit_is _ (is_linear_base s.base) d.base_is) in
    let start = h.returns flags (bit_is _ (is_linear s.tally.start) d.linear_is) (bit_is _ (is_segment s.tally.start) d.segment_is) in
    rw (away, unready, kind, tail, cr, base, start)

pub within_returns : (s : Intake) → StartNumber s.tally.start (start_number s.tally.start) → stands_for (stand (Within s)) ≡ Within s
within_returns s h = back s (within_flags s) (start_number s.tally.start) refl h

-- the contract of `stand_of`
pub stood : {l : Listener} {r : Stand} → r ≡ stand l → stands_for (stand l) ≡ l → StandOf l r
stood e h = record { answer = e; returns = ap stands_for e ∙ h }

-- ---- only seven bits are read

pub seven_flags_read : SevenFlagsRead
seven_flags_read flags skipped base begin lines used records =
    let low = flags % 128 in
    let place : flags % 4 ≡ low % 4 = omega arith in
    let kind : flags / 4 % 2 ≡ low / 4 % 2 = same_bit (flags / 4) (16 * (flags / 128)) (low / 4) (omega arith) in
    let cr : flags / 8 % 2 ≡ low / 8 % 2 = same_bit (flags / 8) (8 * (flags / 128)) (low / 8) (omega arith) in
    let linear : flags / 16 % 2 ≡ low / 16 % 2 = same_bit (flags / 16) (4 * (flags / 128)) (low / 16) (omega arith) in
    let segment-start : flags / 32 % 2 ≡ low / 32 % 2 = same_bit (flags / 32) (2 * (flags / 128)) (low / 32) (omega arith) in
    let linear-start : flags / 64 % 2 ≡ low / 64 % 2 = same_bit (flags / 64) (flags / 128) (low / 64) (omega arith) in
    rw (place, kind, cr, linear, segment-start, linear-start)
