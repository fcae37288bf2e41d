-- A light over loads: what a dump's load says of the count, and the contracts of `set_up`, `dump` and `dump_srecords`. Document 02, wish 14.
-- Assumes nothing.
use Rattle.std.specs.Prelude.{◌≡◌, ℕ, ◌+◌, ◌*◌, ◌&&◌, ◌||◌, List, [], ◌∷◌, ◌++◌, length, ◌==◌, nat_le, slice_index}
use Rattle.std.proofs.Math.Option.{Option, none, some}
use Rattle.digits.specs.Common.{text}
use Rattle.std.specs.Prelude.{if◌then◌else◌}
use Rattle.record.specs.Refusals.{bad_window}
use Rattle.marks.specs.Marks.{mark_at}
use Rattle.reader.specs.Lines.{LF}
use Rattle.steps.specs.Steps.{Verdict, accepted, refused}
use Rattle.steps.specs.Source.{Source}
use Rattle.steps.specs.Sites.{Loaded}
use Rattle.steps.specs.Told.{told_loading}
use Rattle.window.specs.Load.{load_window}
use Rattle.intel.specs.Placing.{intel}
use Rattle.light.specs.declared.Color.{Color as CodeColor}
use Rattle.light.specs.declared.Color.TheVariants.{Broken, NoCount, First, Green, Stale, Restarted}
use Rattle.light.specs.Aliases.{Count}
use Rattle.light.specs.declared.Light.{Light}
use Rattle.light.specs.Aliases.{Made}
use Rattle.light.specs.declared.Dumped.{Dumped}
use Rattle.light.specs.Colors.{Color, broken, no_count, first_seen, green, stale, restarted, Outcome, refused_one, uncounted, counted, color}
use Rattle.std.specs.Prelude.{None, Some}

-- ---- what the code tells

abbrev pub told_color : CodeColor → Color
told_color Broken = broken
told_color NoCount = no_count
told_color First = first_seen
told_color Green = green
told_color Stale = stale
told_color Restarted = restarted

abbrev pub told_count : Count → Option ℕ
told_count None = none
told_count (Some n) = some n

-- ---- set-up

-- BadPlace for a place outside the window; else a light that knows no count
abbrev pub made_of : (first length high low : ℕ) → Made
made_of first length high low =
    if nat_le length high || nat_le length low then None else
    Some (record { first = first; length = length; high = high; low = low; known = None })

-- the contract of `set_up`
pub record SetUp (first length high low : ℕ) (r : Made) : Type 0 where
  pub answer : r ≡ made_of first length high low

-- ---- a dump

-- its load: 16 also for a page of another length than at set-up
unfoldable pub load_for : {S : Type 0} → Source S → Light → (text page marks : List ℕ) → Loaded
unfolding load_window
load_for src l text page marks =
    if length page == l.length then load_window src text l.first page marks else
    record { answer = refused bad_window 0; page = page; marks = marks }

-- the count that page and marks hold: none unless both places are marked
unfoldable pub count_in : (high low : ℕ) (page marks : List ℕ) → Outcome
unfolding mark_at
count_in high low page marks =
    if mark_at marks high == 1 && mark_at marks low == 1
    then counted (256 * slice_index page high + slice_index page low) else uncounted

-- what a load says of the count
unfoldable pub said_in : (high low : ℕ) → Verdict → (page marks : List ℕ) → Outcome
unfolding count_in
said_in high low (accepted t) page marks = count_in high low page marks
said_in high low (refused r line) page marks = refused_one

-- what a dump says
unfoldable pub outcome : {S : Type 0} → Source S → Light → (text page marks : List ℕ) → Outcome
unfolding load_for said_in
outcome src l text page marks = let d = load_for src l text page marks in said_in l.high l.low d.answer d.page d.marks

-- the light after it: it remembers each count that is stated
abbrev pub light_after : Light → Outcome → Light
light_after l refused_one = l
light_after l uncounted = l
light_after l (counted n) = record { first = l.first; length = l.length; high = l.high; low = l.low; known = Some n }

-- the contract of `dump`, and of `dump_srecords`
pub record Dumps {S : Type 0} (src : Source S) (l : Light) (text page₀ marks₀ : List ℕ) (r : Dumped) (page' marks' : List ℕ) : Type 0 where
  pub color_is : told_color r.color ≡ color (told_count l.known) (outcome src l text page₀ marks₀)
  pub answer : told_loading r.answer ≡ (load_for src l text page₀ marks₀).answer
  pub light : r.light ≡ light_after l (outcome src l text page₀ marks₀)
  pub page : page' ≡ (load_for src l text page₀ marks₀).page
  pub marks : marks' ≡ (load_for src l text page₀ marks₀).marks

-- ---- examples: a light of 4 places from address 0 on, with the count at two of them

abbrev pub lamp : (high low : ℕ) → Light
lamp high low = record { first = 0; length = 4; high = high; low = low; known = None }

-- 0005 at the places 0 and 1; 0006 there; a high byte alone; the end
abbrev pub five : List ℕ
five = text ":020000000005F9"

abbrev pub six : List ℕ
six = text ":020000000006F8"

abbrev pub half : List ℕ
half = text ":0100000000FF"

abbrev pub E : List ℕ
E = text ":00000001FF"

-- a light for a window that ends beyond 2^32
abbrev pub beyond : Light
beyond = record { first = 0xFFFFFFFF; length = 2; high = 0; low = 1; known = None }

pub record Examples : Type 0 where
  pub states_five : outcome intel (lamp 0 1) (five ++ (LF ∷ E)) (9 ∷ 9 ∷ 9 ∷ 9 ∷ []) (0 ∷ []) ≡ counted 5
  -- what follows the end record is not read
  pub old_tail : outcome intel (lamp 0 1) (six ++ (LF ∷ E ++ (LF ∷ five ++ (LF ∷ E)))) (9 ∷ 9 ∷ 9 ∷ 9 ∷ []) (0 ∷ []) ≡ counted 6
  -- half a count is none, whatever page and marks held
  pub half_a_count : outcome intel (lamp 0 1) (half ++ (LF ∷ E)) (0 ∷ 5 ∷ 9 ∷ 9 ∷ []) (0xFF ∷ []) ≡ uncounted
  pub without_end : outcome intel (lamp 0 1) five (9 ∷ 9 ∷ 9 ∷ 9 ∷ []) (0 ∷ []) ≡ refused_one
  -- the first place has the high byte, also if it lies after the other
  pub turned_round : outcome intel (lamp 1 0) (five ++ (LF ∷ E)) (9 ∷ 9 ∷ 9 ∷ 9 ∷ []) (0 ∷ []) ≡ counted 0x0500
  -- both places may be the same
  pub one_place : outcome intel (lamp 1 1) (five ++ (LF ∷ E)) (9 ∷ 9 ∷ 9 ∷ 9 ∷ []) (0 ∷ []) ≡ counted 0x0505
  -- a place is not an address
  pub not_an_address : made_of 0x12000 8 0x12000 0x12001 ≡ None
  -- a light made up by hand
  pub by_hand : outcome intel (lamp 0 9) (five ++ (LF ∷ E)) (9 ∷ 9 ∷ 9 ∷ 9 ∷ []) (0 ∷ []) ≡ uncounted
  -- a window that ends beyond 2^32 is set up, and each of its dumps is refused
  pub set_up_beyond : made_of 0xFFFFFFFF 2 0 1 ≡ Some beyond
  pub refused_beyond : (load_for intel beyond E (9 ∷ 9 ∷ []) (0 ∷ [])).answer ≡ refused bad_window 0
  -- a page of 5 places for 4, and marks of 2 bytes for 1
  pub longer_page : (load_for intel (lamp 0 1) E (9 ∷ 9 ∷ 9 ∷ 9 ∷ 9 ∷ []) (0 ∷ [])).answer ≡ refused bad_window 0
  pub longer_marks : (load_for intel (lamp 0 1) E (9 ∷ 9 ∷ 9 ∷ 9 ∷ []) (0 ∷ 0 ∷ [])).answer ≡ refused bad_window 0
