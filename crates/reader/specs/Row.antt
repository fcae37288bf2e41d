-- What the lines of a text say, one after the other, each with the number of its line.
-- Assumes nothing.
use Rattle.std.specs.Prelude.{ℕ, suc, Bool, true, false, ◌&&◌, ◌||◌, List, [], ◌∷◌}
use Rattle.std.specs.Prelude.{if◌then◌else◌}
use Rattle.record.specs.Line.{Said, says, wrong, judge}
use Rattle.record.specs.Meaning.{Meaning, data_at, end_of_file, extended_segment, start_segment, extended_linear, start_linear, meaning}
use Rattle.reader.specs.declared.ReaderOptions.{ReaderOptions}
use Rattle.reader.specs.Lines.{lines}

-- what is said on a line
pub data Numbered : Type 0 where
  on : (line : ℕ) (said : Said) → Numbered

abbrev pub line_number : Numbered → ℕ
line_number (on line said) = line

-- one a line, numbered from n on, but none for an empty line
unfoldable pub sayings : ℕ → List (List ℕ) → List Numbered
unfolding judge
sayings n [] = []
sayings n ([] ∷ ls) = sayings (suc n) ls
sayings n ((c ∷ line) ∷ ls) = on n (judge (c ∷ line)) ∷ sayings (suc n) ls

unfoldable pub is_end : Meaning → Bool
is_end (data_at offset bytes) = false
is_end end_of_file = true
is_end (extended_segment number) = false
is_end (start_segment cs ip) = false
is_end (extended_linear number) = false
is_end (start_linear number) = false

-- is this the last that a reader with these options reads?
unfoldable pub stops : ReaderOptions → Said → Bool
unfolding is_end meaning
stops options (says kind address payload) = is_end (meaning kind address payload) && options.stop_after_eof
stops options (wrong r) = options.stop_after_first_error

-- sayings through the first that stops the reader
unfoldable pub through_stop : ReaderOptions → List Numbered → List Numbered
unfolding stops
through_stop options [] = []
through_stop options (on n said ∷ row) = on n said ∷ (if stops options said then [] else through_stop options row)

-- does one of them stop it?
unfoldable pub stopped : ReaderOptions → List Numbered → Bool
unfolding stops
stopped options [] = false
stopped options (on n said ∷ row) = stops options said || stopped options row

-- what a reader with these options reads of a text
unfoldable pub row : ReaderOptions → List ℕ → List Numbered
unfolding through_stop sayings lines
row options text = through_stop options (sayings 1 (lines text))
