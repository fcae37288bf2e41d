-- A light after a load that was made elsewhere, such as one that was fed chunk by chunk: the contract of `after`, and what is claimed of it. Each claim is
-- proved in `proofs/After.antt`.
-- Assumes nothing.
use Rattle.std.specs.Prelude.{◌≡◌, ℕ, Bool, true, false, ◌&&◌, List, [], ◌∷◌, length, ◌==◌}
use Rattle.std.proofs.Math.Option.{Option, none, some}
use Rattle.std.specs.Prelude.{if◌then◌else◌}
use Rattle.record.specs.Refusals.{bad_window, missing_end_of_file_record}
use Rattle.marks.specs.Marks.{row_length, first_unused}
use Rattle.steps.specs.Aliases.{Loading}
use Rattle.steps.specs.Steps.{nothing_yet, Verdict, accepted, refused}
use Rattle.steps.specs.Source.{Source}
use Rattle.steps.specs.Told.{told_loading, is_accepted}
use Rattle.window.specs.Load.{LoadWindow}
use Rattle.light.specs.declared.Light.{Light}
use Rattle.light.specs.declared.Dumped.{Dumped}
use Rattle.light.specs.Colors.{Outcome, uncounted, counted, color}
use Rattle.light.specs.Light.{told_color, told_count, load_for, said_in, light_after, Dumps, lamp}

-- ---- what the light goes by

abbrev pub is_none : Option ℕ → Bool
is_none none = true
is_none (some place) = false

-- a row for so many places, with no unused bit set
unfoldable pub is_row : (places : ℕ) (marks : List ℕ) → Bool
unfolding row_length first_unused
is_row places marks = length marks == row_length places && is_none (first_unused places marks)

-- do marks go with an answer? With a refusal any do; with an acceptance a row, as a load leaves it
abbrev pub goes_with : Verdict → (places : ℕ) (marks : List ℕ) → Bool
goes_with (accepted t) places marks = is_row places marks
goes_with (refused w line) places marks = true

-- the answer that is taken: 16 with a page of another length than at set-up, and with marks that do not go with the answer
unfoldable pub taken : Light → Verdict → (page marks : List ℕ) → Verdict
unfolding is_row
taken l answer page marks = if length page == l.length && goes_with answer (length page) marks then answer else refused bad_window 0

-- what it says of the count
unfoldable pub said_after : Light → Verdict → (page marks : List ℕ) → Outcome
unfolding taken said_in
said_after l answer page marks = said_in l.high l.low (taken l answer page marks) page marks

-- the contract of `after`
pub record After (l : Light) (answer : Loading) (page marks : List ℕ) (r : Dumped) : Type 0 where
  pub color_is : told_color r.color ≡ color (told_count l.known) (said_after l (told_loading answer) page marks)
  pub answer_is : told_loading r.answer ≡ taken l (told_loading answer) page marks
  pub light_is : r.light ≡ light_after l (said_after l (told_loading answer) page marks)

-- ---- claims

abbrev pub AfterUnique : Type 0
AfterUnique = (l : Light) (answer : Loading) (page marks : List ℕ) (r r' : Dumped) → After l answer page marks r → After l answer page marks r' → r ≡ r'

-- of the answer only that it accepts or refuses matters to the color and to the light
abbrev pub AfterAlike : Type 0
AfterAlike =
    (l : Light) (answer answer' : Loading) (page marks : List ℕ) (r r' : Dumped) → is_accepted answer ≡ is_accepted answer'
    → After l answer page marks r → After l answer' page marks r' → (r.color ≡ r'.color) × (r.light ≡ r'.light)

-- after a load of a text, whoever made it, `after` returns what `dump` returns. So what is claimed of dumps, of one or of many in turn, holds of loads that are fed
abbrev pub AfterLoad : Type 1
AfterLoad =
    (S : Type 0) (src : Source S) (l : Light) (text page₀ marks₀ : List ℕ) (answer : Loading) (page marks : List ℕ) (r : Dumped)
    → let load = load_for src l text page₀ marks₀ in told_loading answer ≡ load.answer → page ≡ load.page → marks ≡ load.marks
    → After l answer page marks r → Dumps src l text page₀ marks₀ r page marks

-- the same by the contract of a load, for a page of the light's length
abbrev pub AfterLoadWindow : Type 1
AfterLoadWindow =
    (S : Type 0) (src : Source S) (l : Light) (text page₀ marks₀ : List ℕ) (answer : Loading) (page marks : List ℕ) (r : Dumped)
    → length page₀ ≡ l.length → LoadWindow src text l.first page₀ marks₀ answer page marks
    → After l answer page marks r → Dumps src l text page₀ marks₀ r page marks

-- ---- examples

pub record Examples : Type 0 where
  pub holds_five : said_after (lamp 0 1) (accepted nothing_yet) (0 ∷ 5 ∷ 9 ∷ 9 ∷ []) (0x03 ∷ []) ≡ counted 5
  pub half_marked : said_after (lamp 0 1) (accepted nothing_yet) (0 ∷ 5 ∷ 9 ∷ 9 ∷ []) (0x01 ∷ []) ≡ uncounted
  -- a page of 5 places for 4; marks of 2 bytes for 1; an unused bit that is set
  pub longer_page : taken (lamp 0 1) (accepted nothing_yet) (0 ∷ 5 ∷ 9 ∷ 9 ∷ 9 ∷ []) (0x03 ∷ []) ≡ refused bad_window 0
  pub longer_marks : taken (lamp 0 1) (accepted nothing_yet) (0 ∷ 5 ∷ 9 ∷ 9 ∷ []) (0x03 ∷ 0 ∷ []) ≡ refused bad_window 0
  pub unused_bit : taken (lamp 0 1) (accepted nothing_yet) (0 ∷ 5 ∷ 9 ∷ 9 ∷ []) (0x13 ∷ []) ≡ refused bad_window 0
  -- a refusal stays the one that it is, whatever the marks are
  pub stays_refused : taken (lamp 0 1) (refused missing_end_of_file_record 0) (0 ∷ 5 ∷ 9 ∷ 9 ∷ []) (0xFF ∷ 0 ∷ []) ≡ refused missing_end_of_file_record 0
