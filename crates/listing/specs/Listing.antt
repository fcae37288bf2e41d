-- The listing of an input: `records`, a line for each answer of the reader, and how many answers there are.
-- Assumes nothing.
use Rattle.std.specs.Prelude.{ℕ, zero, suc, ◌/◌, ◌%◌, true, false, eqb, ltb, length}
use mathlib.Core.List.{List, [], ◌∷◌, ◌++◌, flat_map}
use Rattle.digits.specs.Common.{text}
use Rattle.std.specs.Prelude.{if◌then◌else◌}
use Rattle.record.specs.Refusals.{Refusal, refusal, number_of}
use Rattle.record.specs.Line.{Said, says, wrong}
use Rattle.record.specs.Meaning.{Meaning, data_at, end_of_file, extended_segment, start_segment, extended_linear, start_linear, meaning}
use Rattle.record.specs.Written.{two_bytes, four_bytes}
use Rattle.digits.specs.Spelling.{capital_digit, spelt}
use Rattle.record.specs.Record.{meant}
use Rattle.reader.specs.declared.ReaderOptions.{ReaderOptions}
use Rattle.reader.specs.Aliases.{Reply}
use Rattle.reader.specs.Lines.{LF}
use Rattle.reader.specs.Row.{Numbered, on, row}
use Rattle.reader.specs.Told.{refusal_of}
use Rattle.std.specs.Prelude.{Err, None, Ok, Some}

-- a number in decimal, of at most so many digits: the last digit stands behind those of a tenth of the number
unfoldable pub digits : (most n : ℕ) → List ℕ
unfolding capital_digit
digits zero n = []
digits (suc most) n = if ltb n 10 then capital_digit n ∷ [] else digits most (n / 10) ++ (capital_digit (n % 10) ∷ [])

unfoldable pub decimal : ℕ → List ℕ
unfolding digits
decimal n = digits (suc n) n

-- bytes in hexadecimal, behind a space
abbrev pub spaced : List ℕ → List ℕ
spaced bytes = text " " ++ spelt bytes

-- a payload behind a space; nothing where there is none
unfoldable pub payload : List ℕ → List ℕ
unfolding spelt
payload [] = []
payload (b ∷ bs) = spaced (b ∷ bs)

-- types 02 to 05 are marked X and their type's last digit
unfoldable pub record_entry : Meaning → List ℕ
unfolding spelt payload
record_entry (data_at offset bytes) = text "D " ++ spelt (two_bytes offset) ++ payload bytes
record_entry end_of_file = text "E"
record_entry (extended_segment number) = text "X2 " ++ spelt (two_bytes number)
record_entry (start_segment cs ip) = text "X3 " ++ spelt (two_bytes cs ++ two_bytes ip)
record_entry (extended_linear number) = text "X4 " ++ spelt (two_bytes number)
record_entry (start_linear number) = text "X5 " ++ spelt (four_bytes number)

-- the values of a line's refusal: each is a byte, but that of refusal 2 is a place, which takes two
unfoldable pub values_shown : Refusal → List ℕ
unfolding spelt flat_map
values_shown (refusal number values) = flat_map (λ v. spaced (if eqb number 2 then two_bytes v else v ∷ [])) values

unfoldable pub refusal_entry : Refusal → List ℕ
unfolding decimal values_shown
refusal_entry r = text "! " ++ decimal (number_of r) ++ values_shown r

unfoldable pub entry : Said → List ℕ
unfolding record_entry refusal_entry meaning
entry (says kind address payload) = record_entry (meaning kind address payload)
entry (wrong r) = refusal_entry r

-- every line ends in LF
abbrev pub ended : List ℕ → List ℕ
ended line = line ++ (LF ∷ [])

-- the line of a reply, whose payload lies in the pool; none of "done"
abbrev pub shown : Reply → (pool : List ℕ) → List ℕ
shown (Some (Ok r)) pool = ended (record_entry (meant r pool))
shown (Some (Err e)) pool = ended (refusal_entry (refusal_of e))
shown None pool = []

abbrev pub heading : List ℕ
heading = ended (text "records")

abbrev pub count_line : (count : ℕ) → List ℕ
count_line count = ended (decimal count ++ text " answers")

unfoldable pub entries : List Numbered → List ℕ
unfolding entry
entries [] = []
entries (on n said ∷ answers) = ended (entry said) ++ entries answers

-- a refused line stops the reader no more than a record; an end record does
abbrev pub listing_options : ReaderOptions
listing_options = record { stop_after_first_error = false; stop_after_eof = true }

abbrev pub answers : (input : List ℕ) → List Numbered
answers input = row listing_options input

unfoldable pub listing : (input : List ℕ) → List ℕ
unfolding entries decimal row
listing input =
    if ltb 65536 (length input) then ended (text "input too long") else
    heading ++ entries (answers input) ++ count_line (length (answers input))
