-- What becomes of a line, said of the text's lines. Nothing here computes.
-- Assumes nothing.
use Rattle.std.specs.Prelude.{ℕ, suc, ◌≡◌, ◌≢◌, ◌⊎◌, List, [], ◌∷◌, ◌++◌, length}
use Rattle.std.proofs.Math.Option.{some}
use Rattle.digits.specs.Common.{Every}
use Rattle.record.specs.Refusals.{Refusal}
use Rattle.record.specs.Line.{wrong, judge}
use Rattle.record.specs.Meaning.{Meaning, data_at, end_of_file, extended_segment, extended_linear}
use Rattle.intel.specs.Lines.{record_on}
use Rattle.salvage.specs.Salvage.{refused, base_unknown, Fate, kept, dropped}

-- the line says the record
abbrev pub Says : (line : List ℕ) → Meaning → Type 0
Says line m = record_on line ≡ some m

-- the line has a byte, and is refused
pub record Refused (line : List ℕ) (r : Refusal) : Type 0 where
  pub has_byte : line ≢ []
  pub judged : judge line ≡ wrong r

-- the line is a good type 02 or 04
abbrev pub SetsBase : List ℕ → Type 0
SetsBase line = ((number : ℕ) × Says line (extended_segment number)) ⊎ ((number : ℕ) × Says line (extended_linear number))

-- after these lines the base is unknown: one of them is refused, and no good type 02 or 04 stands after it
pub record Unknown (ahead : List (List ℕ)) : Type 0 where
  pub before : List (List ℕ)
  pub line : List ℕ
  pub after : List (List ℕ)
  pub whole : ahead ≡ before ++ (line ∷ after)
  pub why : Refusal
  pub damaged : Refused line why
  pub unmended : Every (λ (l : List ℕ). ¬ SetsBase l) after

-- the record is not a data record
abbrev pub NotData : Meaning → Type 0
NotData m = (offset : ℕ) (bytes : List ℕ) → m ≢ data_at offset bytes

-- what becomes of a line after these
pub data Becomes (ahead : List (List ℕ)) (line : List ℕ) : Fate → Type 0 where
  not_a_record : (r : Refusal) → Refused line r → Becomes ahead line (dropped (refused r))
  data_lost : (offset : ℕ) (bytes : List ℕ) → Says line (data_at offset bytes) → Unknown ahead → Becomes ahead line (dropped base_unknown)
  data_kept : (offset : ℕ) (bytes : List ℕ) → Says line (data_at offset bytes) → ¬ Unknown ahead → Becomes ahead line (kept (data_at offset bytes))
  other_kept : (m : Meaning) → Says line m → NotData m → Becomes ahead line (kept m)

-- the line is not the end record, so the reading goes on after it
abbrev pub GoesOn : List ℕ → Type 0
GoesOn line = ¬ Says line end_of_file

-- line n of these, to which the reading comes: no end record stands before it
pub record Reached (ls : List (List ℕ)) (n : ℕ) (ahead : List (List ℕ)) (line : List ℕ) : Type 0 where
  pub behind : List (List ℕ)
  pub whole : ls ≡ ahead ++ (line ∷ behind)
  pub number : n ≡ suc (length ahead)
  pub come_to : Every GoesOn ahead

-- this becomes of line n of these
pub record Fated (ls : List (List ℕ)) (n : ℕ) (what : Fate) : Type 0 where
  pub ahead : List (List ℕ)
  pub line : List ℕ
  pub reached : Reached ls n ahead line
  pub becomes : Becomes ahead line what
