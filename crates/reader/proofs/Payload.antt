-- The payload: the bytes of the buffer from its fifth on. Two or four of them, taken out of the buffer one by one, are the
-- number that their type means.
-- Assumes nothing.
use Rattle.std.proofs.Common.{◌≡◌, ℕ, ◌+◌, ◌*◌, ◌≤◌, ◌≢◌, List, [], ◌∷◌, length, get_or, take, drop, refl, ap, ◌∙◌, ap₂, arith}
use Rattle.std.specs.Prelude.{Ok, Err}
use Rattle.digits.proofs.Parts.{part_length}
use Rattle.reader.specs.declared.ReaderError.TheVariants.{InvalidLengthForType}
use Rattle.record.specs.declared.Record.TheVariants.{EndOfFile, ExtendedSegmentAddress, StartSegmentAddress, ExtendedLinearAddress, StartLinearAddress}
use Rattle.digits.specs.Digits.{number_after}
use Rattle.record.specs.Line.{size}
use Rattle.record.specs.Meaning.{meaning}
use Rattle.reader.specs.Told.{gives}
use Rattle.reader.specs.Answer.{given}
use Rattle.reader.specs.Helpers.{Special, fitting, misfitting}
use Rattle.reader.proofs.Decoding.{drop_two}

-- the records of the types 01 to 05 are told as their type and payload are
module _ (kind : ℕ) (buf : List ℕ) (size-known : 260 ≤ length buf) where
  two : take 2 (drop 4 buf) ≡ get_or buf 4 0 ∷ get_or buf 5 0 ∷ []
  two = ap (take 2) (drop_two buf 4 (omega arith))

  four : take 4 (drop 4 buf) ≡ get_or buf 4 0 ∷ get_or buf 5 0 ∷ get_or buf 6 0 ∷ get_or buf 7 0 ∷ []
  four =
      ap (take 4) (drop_two buf 4 (omega arith))
      ∙ ap (λ (l : List ℕ). get_or buf 4 0 ∷ get_or buf 5 0 ∷ take 2 l) (drop_two buf 6 (omega arith))

  pub special_end : (n : ℕ) → kind ≡ 1 → n ≡ 0 → Special kind (take n (drop 4 buf)) (Ok EndOfFile)
  unfolding given meaning size
  special_end n e z = rw (e, z) (fitting EndOfFile refl (λ address n at. refl))

  module _ (first : ℕ) (f : first ≡ get_or buf 4 0 * 256 + get_or buf 5 0) where
    pub special_segment : (n : ℕ) → kind ≡ 2 → n ≡ 2 → Special kind (take n (drop 4 buf)) (Ok (ExtendedSegmentAddress first))
    unfolding given meaning size number_after
    special_segment n e z =
        rw (e, z, two) (fitting (ExtendedSegmentAddress first) refl (λ address n at. ap (λ (x : ℕ). gives 2 (x ∷ [])) (omega arith)))

    pub special_linear : (n : ℕ) → kind ≡ 4 → n ≡ 2 → Special kind (take n (drop 4 buf)) (Ok (ExtendedLinearAddress first))
    unfolding given meaning size number_after
    special_linear n e z =
        rw (e, z, two) (fitting (ExtendedLinearAddress first) refl (λ address n at. ap (λ (x : ℕ). gives 4 (x ∷ [])) (omega arith)))

    module _ (second : ℕ) (s : second ≡ get_or buf 6 0 * 256 + get_or buf 7 0) where
      pub special_start : (n : ℕ) → kind ≡ 3 → n ≡ 4 → Special kind (take n (drop 4 buf)) (Ok (StartSegmentAddress first second))
      unfolding given meaning size number_after
      special_start n e z =
          rw (e, z, four)
          (fitting (StartSegmentAddress first second) refl (λ address n at. ap₂ (λ (x y : ℕ). gives 3 (x ∷ y ∷ [])) (omega arith) (omega arith)))

      pub special_long : (long n : ℕ) → long ≡ first * 65536 + second → kind ≡ 5 → n ≡ 4 → Special kind (take n (drop 4 buf)) (Ok (StartLinearAddress long))
      unfolding given meaning size number_after
      special_long long n l e z =
          rw (e, z, four) (fitting (StartLinearAddress long) refl (λ address n at. ap (λ (x : ℕ). gives 5 (x ∷ [])) (omega arith)))

  pub special_misfit : (n : ℕ) → n ≤ 255 → size kind ≢ n → Special kind (take n (drop 4 buf)) (Err InvalidLengthForType)
  special_misfit n small h = let l = part_length buf 4 n (omega arith) in misfitting (λ e. h (e ∙ l))
