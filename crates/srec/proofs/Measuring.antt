-- The length of a record's line, six characters, two for each byte of its address and two for each of its data; and why it has none, by the
-- definition's own tests.
-- Assumes nothing.
use Rattle.std.proofs.Common.{◌≡◌, ℕ, ◌+◌, ◌*◌, ◌<◌, ◌≤◌, Bool, true, false, ltb, List, length, refl, ap, arith, le-ltb, le-leb}
use mathlib.Core.Option.{none, some}
use borrow.Author.Tests.{lt-leb}
use Rattle.record.specs.Refusals.{Refusal, invalid_length_for_type, payload_outside_pool, data_exceeds_maximum_length, address_too_wide}
use Rattle.digits.proofs.Tests.{split}
use Rattle.digits.proofs.Parts.{part_length}
use Rattle.writer.specs.Told.{wrote, refuses}
use Rattle.writer.specs.Text.{place_behind}
use Rattle.srec.specs.declared.SType.{SType}
use Rattle.srec.specs.declared.SType.TheVariants.{S0, S1, S2, S3, S5, S7, S8, S9}
use Rattle.srec.specs.declared.SRecord.{SRecord}
use Rattle.srec.specs.Types.{is_named, width, fits}
use Rattle.srec.specs.Written.{beyond, most_data}
use Rattle.srec.specs.Record.{digit_of, data_of}
use Rattle.srec.specs.Writer.{line_refusal, line, line_text}
use Rattle.srec.proofs.Writing.{written_length}

pub digit_named : (t : SType) → is_named (digit_of t) ≡ true
unfolding is_named
digit_named S0 = refl
digit_named S1 = refl
digit_named S2 = refl
digit_named S3 = refl
digit_named S5 = refl
digit_named S7 = refl
digit_named S8 = refl
digit_named S9 = refl

pub digit_small : (t : SType) → digit_of t ≤ 9
digit_small S0 = omega arith
digit_small S1 = omega arith
digit_small S2 = omega arith
digit_small S3 = omega arith
digit_small S5 = omega arith
digit_small S7 = omega arith
digit_small S8 = omega arith
digit_small S9 = omega arith

module _ (r : SRecord) (pool : List ℕ) where
  pub outside : length pool < r.at + r.len → refuses payload_outside_pool ≡ place_behind (line_text r pool) 0
  unfolding line_refusal
  outside h = rw (lt-leb (r.at + r.len) (length pool) h)

  module _ (inside : r.at + r.len ≤ length pool) where
    pub misfit : fits (digit_of r.kind) r.len ≡ false → refuses invalid_length_for_type ≡ place_behind (line_text r pool) 0
    unfolding line_refusal
    misfit f = rw (le-leb (r.at + r.len) (length pool) inside, f)

    pub line_length : length (line r pool) ≡ 6 + 2 * width (digit_of r.kind) + 2 * r.len
    line_length =
        let n = part_length pool r.at r.len inside in
        let l = written_length (digit_of r.kind) r.address (data_of r pool) (digit_named r.kind) in
        omega arith

    module _ (fit : fits (digit_of r.kind) r.len ≡ true) where
      pub too_long : most_data (digit_of r.kind) < r.len → refuses (data_exceeds_maximum_length r.len) ≡ place_behind (line_text r pool) 0
      unfolding line_refusal
      too_long h = rw (le-leb (r.at + r.len) (length pool) inside, fit, lt-leb r.len (most_data (digit_of r.kind)) h)

      module _ (most : r.len ≤ most_data (digit_of r.kind)) where
        pub too_wide : ltb r.address (beyond (width (digit_of r.kind))) ≡ false → refuses address_too_wide ≡ place_behind (line_text r pool) 0
        unfolding line_refusal
        too_wide w = rw (le-leb (r.at + r.len) (length pool) inside, fit, le-leb r.len (most_data (digit_of r.kind)) most, w)

        pub fits_line : ltb r.address (beyond (width (digit_of r.kind))) ≡ true
            → wrote (6 + 2 * width (digit_of r.kind) + 2 * r.len) ≡ place_behind (line_text r pool) 0
        unfolding line_refusal
        fits_line w =
            let l = line_length in
            rw (le-leb (r.at + r.len) (length pool) inside, fit, le-leb r.len (most_data (digit_of r.kind)) most, w) (ap wrote (omega arith))

-- ---- a record that has a line

-- what no refusal means
pub record Fine (kind address at len n : ℕ) : Type 0 where
  pub inside : at + len ≤ n
  pub fit : fits kind len ≡ true
  pub most : len ≤ most_data kind
  pub small : address < beyond (width kind)

some_none : {X : Type 0} (r : Refusal) → some r ≡ none → X
some_none r e = let z : ◌≡◌ {A = ℕ} 0 1 = cc in absurd (omega arith)

module _ (kind address at len n : ℕ) where
  not_outside : line_refusal kind address at len n ≡ none → at + len ≤ n
  unfolding line_refusal
  not_outside e = split (at + len) n (λ h. h) (λ h. some_none payload_outside_pool (rw (lt-leb (at + len) n h) at e))

  module _ (inside : at + len ≤ n) where
    not_misfit : line_refusal kind address at len n ≡ none → fits kind len ≡ true
    unfolding line_refusal
    not_misfit e = go (fits kind len) refl
      where
        go : (b : Bool) → fits kind len ≡ b → fits kind len ≡ true
        go true f = f
        go false f = some_none invalid_length_for_type (rw (le-leb (at + len) n inside, f) at e)

    module _ (fit : fits kind len ≡ true) where
      not_long : line_refusal kind address at len n ≡ none → len ≤ most_data kind
      unfolding line_refusal
      not_long e =
          split len (most_data kind) (λ h. h)
          (λ h. some_none (data_exceeds_maximum_length len) (rw (le-leb (at + len) n inside, fit, lt-leb len (most_data kind) h) at e))

      not_wide : len ≤ most_data kind → line_refusal kind address at len n ≡ none → address < beyond (width kind)
      unfolding line_refusal
      not_wide most e =
          split (beyond (width kind)) address
          (λ h. some_none address_too_wide (rw (le-leb (at + len) n inside, fit, le-leb len (most_data kind) most, le-ltb address (beyond (width kind)) h) at e))
          (λ h. h)

  pub fine : line_refusal kind address at len n ≡ none → Fine kind address at len n
  fine e =
      let i = not_outside e in
      let f = not_misfit i e in
      let m = not_long i f e in
      record { inside = i; fit = f; most = m; small = not_wide i f m e }
