-- What a record that has a line gives the code that puts it: its payload lies in the pool, and fits where the line does.
-- Assumes nothing.
use Rattle.std.proofs.Common.{◌≡◌, ℕ, ◌+◌, ◌≤◌, Bool, true, false, leb, List, length, refl, arith, leb-true}
use mathlib.Core.Option.{none, some}
use Rattle.std.specs.Prelude.{if◌then◌else◌}
use Rattle.record.specs.Refusals.{Refusal}
use Rattle.record.specs.declared.Record.{Record}
use Rattle.record.specs.declared.Record.TheVariants.{Data}
use Rattle.record.specs.Record.{meant}
use Rattle.record.specs.Written.{payload_of}
use Rattle.writer.specs.Line.{line_refusal, line}
use Rattle.writer.specs.Helpers.{Fitting, Ready}
use Rattle.writer.proofs.Measuring.{line_length}

both_hold : (b c : Bool) (r s : Refusal) → (if b then (if c then none else some r) else some s) ≡ none → (b ≡ true) × (c ≡ true)
both_hold true true r s e = (refl, refl)
both_hold true false r s e = let z : ◌≡◌ {A = ℕ} 0 1 = cc in absurd (omega arith)
both_hold false c r s e = let z : ◌≡◌ {A = ℕ} 0 1 = cc in absurd (omega arith)

-- the payload of a data record that has a line lies in the pool, and is not too long
pub fine_data : (offset at len n : ℕ) → line_refusal (Data offset at len) n ≡ none → (at + len ≤ n) × (len ≤ 255)
fine_data offset at len n e =
    let p = both_hold (leb (at + len) n) (leb len 255) _ _ e in
    (leb-true (at + len) n p.0, leb-true len 255 p.1)

-- a payload as long as the record's fits where the line does
pub fitting : (r : Record) (pool out : List ℕ) (at : ℕ) (payload : List ℕ) → Ready r pool out at
    → length payload ≡ length (payload_of (meant r pool)) → length payload ≤ 255 → Fitting payload out at
fitting r pool out at payload ready same small =
    let l = line_length r pool in
    let room : at + length (line r pool) ≤ length out = ready.room in
    record { most = small; room = omega arith }
