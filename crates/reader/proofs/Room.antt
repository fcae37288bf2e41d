-- A pool with room for 255 bytes is never full: what a line says has no longer payload, and no line is refused with PoolFull's number.
-- Assumes nothing.
use Rattle.std.proofs.Common.{◌≡◌, ℕ, ◌+◌, ◌≤◌, Bool, true, false, ◌&&◌, List, [], ◌∷◌, length, refl, subst, arith, ne_eqb, le-leb}
use Rattle.std.specs.Prelude.{if◌then◌else◌}
use Rattle.record.specs.Refusals.{number_of, pool_full}
use Rattle.record.specs.Line.{Said, says, wrong, judge}
use Rattle.record.specs.Meaning.{Meaning, data_at, end_of_file, extended_segment, start_segment, extended_linear, start_linear, meaning}
use Rattle.record.specs.Written.{Sayable}
use Rattle.record.proofs.Standing.{Stands, stands, fault_few}
use Rattle.record.proofs.Writing.{said_is_sayable}
use Rattle.reader.specs.declared.ReaderOptions.{ReaderOptions}
use Rattle.reader.specs.Told.{gives, refuses}
use Rattle.reader.specs.Answer.{fits_pool, given, answered}
use Rattle.reader.specs.Row.{is_end, stops}
use Rattle.reader.specs.Text.{is_full, ends_row}

given_room : (m : Meaning) (n at : ℕ) → Sayable m → at + 255 ≤ n → is_full (given m n at) ≡ false
unfolding is_full given
given_room (data_at offset bytes) n at h r = rw (le-leb (at + length bytes) n (omega (arith, h.1)))
given_room end_of_file n at h r = refl
given_room (extended_segment number) n at h r = refl
given_room (start_segment cs ip) n at h r = refl
given_room (extended_linear number) n at h r = refl
given_room (start_linear number) n at h r = refl

pub never_full : (line : List ℕ) (n at : ℕ) → at + 255 ≤ n → is_full (answered (judge line) n at) ≡ false
unfolding is_full answered
never_full line n at r = go (judge line) refl
  where
    go : (said : Said) → judge line ≡ said → is_full (answered said n at) ≡ false
    go (says kind address payload) e = given_room (meaning kind address payload) n at (said_is_sayable line kind address payload e) r
    go (wrong w) e = ne_eqb (number_of w) 10 (λ q. omega (arith, fault_few (subst (Stands line) e (stands line))))

-- an answer that uses its line up ends the row exactly if what is said stops the reader
ends_given : (options : ReaderOptions) (m : Meaning) (n at : ℕ) → is_full (given m n at) ≡ false → ends_row options (given m n at) ≡ is_end m && options.stop_after_eof
unfolding is_full given ends_row is_end
ends_given options (data_at offset bytes) n at e = go (fits_pool n at bytes) e
  where
    go : (b : Bool) → is_full (if b then gives 0 (offset ∷ at ∷ length bytes ∷ []) else refuses pool_full) ≡ false
        → ends_row options (if b then gives 0 (offset ∷ at ∷ length bytes ∷ []) else refuses pool_full) ≡ false
    go true e = refl
    go false e = let z : ◌≡◌ {A = ℕ} 0 1 = cc in absurd (omega arith)
ends_given options end_of_file n at e = refl
ends_given options (extended_segment number) n at e = refl
ends_given options (start_segment cs ip) n at e = refl
ends_given options (extended_linear number) n at e = refl
ends_given options (start_linear number) n at e = refl

pub ends_stops : (options : ReaderOptions) (said : Said) (n at : ℕ) → is_full (answered said n at) ≡ false → ends_row options (answered said n at) ≡ stops options said
unfolding answered stops ends_row
ends_stops options (says kind address payload) n at e = ends_given options (meaning kind address payload) n at e
ends_stops options (wrong r) n at e = refl
