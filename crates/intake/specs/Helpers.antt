-- What the intake's functions promise each other.
-- Assumes nothing.
use Rattle.std.specs.Prelude.{◌≡◌, ℕ, ◌+◌, ◌%◌, ◌^◌, ◌<◌, ◌≤◌, Bool, false, List, [], ◌++◌, length, drop, nat_lt}
use Rattle.std.specs.Prelude.{if◌then◌else◌}
use Rattle.reader.specs.Text.{default_options}
use Rattle.chunks.specs.Begun.{Kept, brief, stands_for}
use Rattle.chunks.specs.Helpers.{refusal_in_line}
use Rattle.chunks.specs.Next.{begun, too_small}
use Rattle.chunks.specs.declared.Chunks.{Chunks}
use Rattle.steps.specs.Aliases.{Loading}
use Rattle.steps.specs.declared.Tally.{Tally as CodeTally}
use Rattle.steps.specs.Steps.{Placement, Verdict, accepted, refused}
use Rattle.steps.specs.Source.{Source}
use Rattle.steps.specs.Taken.{Standing, Went, on, stopped, at_line}
use Rattle.steps.specs.Told.{told_loading}
use Rattle.window.specs.Window.{within, window}
use Rattle.window.specs.Promises.{Painted}
use Rattle.intel.specs.Placing.{intel}
use Rattle.loader.specs.declared.Base.{Base as CodeBase}
use Rattle.srecload.specs.Placing.{s_records}
use Rattle.intake.specs.declared.Kind.{Kind}
use Rattle.intake.specs.declared.Kind.TheVariants.{Hex, SRecords}
use Rattle.intake.specs.declared.Intake.{Intake}
use Rattle.intake.specs.declared.Reply.{Reply}
use Rattle.intake.specs.declared.Reply.TheVariants.{WantsMore, Decided, CarryTooSmall}
use Rattle.intake.specs.declared.Turn.{Turn}
use Rattle.intake.specs.declared.Turn.TheVariants as turn
use Rattle.intake.specs.declared.Walk.{Walk}
use Rattle.intake.specs.declared.Heard.{Heard}
use Rattle.intake.specs.declared.Heard.TheVariants as heard
use Rattle.intake.specs.Machine.{takes, Fed, wants_more, decided, fed}
use Rattle.intake.specs.Past.{ends_text}
use Rattle.intake.specs.Ways.{StandingBy, Way, way_of}
use Rattle.std.specs.Prelude.{None, Ok}

-- what the bytes that are kept of a line come to, as what their line comes to: a refusal that names the last byte of 522 names its place in the line
abbrev pub in_line : {S : Type 0} → (skipped : ℕ) → Went S → Went S
in_line n (on st) = on st
in_line n (stopped (accepted t) ps) = stopped (accepted t) ps
in_line n (stopped (refused r line) ps) = stopped (refused (refusal_in_line n r) line) ps

-- a source takes a line by the bytes that are kept of it, and by the line itself, as it takes the line that what is kept stands for
pub record KeptSo {S : Type 0} (src : Source S) : Type 0 where
  pub in_carry : (inside : ℕ → Bool) (n : ℕ) (st : Standing S) (k : Kept) → length k.bytes ≤ 522
      → in_line k.skipped (at_line src inside n st k.bytes) ≡ at_line src inside n st (stands_for k)
  pub in_chunk : (inside : ℕ → Bool) (n : ℕ) (st : Standing S) (line : List ℕ)
      → in_line 0 (at_line src inside n st line) ≡ at_line src inside n st (stands_for (brief line))

abbrev pub verdict_in_line : (skipped : ℕ) → Verdict → Verdict
verdict_in_line n (accepted t) = accepted t
verdict_in_line n (refused r line) = refused (refusal_in_line n r) line

-- ---- a line

abbrev pub told_turn : {S : Type 0} → StandingBy S → Turn → List Placement → Went S
told_turn standing (turn.On base tally) ps = on (standing base tally ps)
told_turn standing (turn.Stop l) ps = stopped (told_loading l) ps

-- a line of which these bytes are kept came to this turn, and what it stated is painted
pub record TurnedBy {S : Type 0} (src : Source S) (standing : StandingBy S) (bytes : List ℕ) (skipped n : ℕ) (base : CodeBase) (tally : CodeTally) (first : ℕ) (page₀ marks₀ : List ℕ) (r : Turn) (page' marks' : List ℕ) : Type 0 where
  pub stated : List Placement
  pub comes_to : in_line skipped (takes src (within first (length page₀)) n (standing base tally []) bytes) ≡ told_turn standing r stated
  pub paints : Painted (window first (length page₀)) stated page₀ marks₀ page' marks'

-- of base and tally stays what the way says
abbrev pub Keeps : Way → CodeBase → CodeTally → Turn → Type 0
Keeps way base tally (turn.On base' tally') = way.stays base tally base' tally'
Keeps way base tally (turn.Stop l) = Unit

abbrev pub Turned : Way → (bytes : List ℕ) (skipped n : ℕ) (base : CodeBase) (tally : CodeTally) (first : ℕ) (page₀ marks₀ : List ℕ) (r : Turn) (page' marks' : List ℕ) → Type 0
Turned way bytes skipped n base tally first page₀ marks₀ r page' marks' =
    TurnedBy way.source way.standing bytes skipped n base tally first page₀ marks₀ r page' marks' × Keeps way base tally r

-- does a line of this kind end its text?
abbrev pub is_end : Kind → (line : List ℕ) → Bool
is_end Hex line = ends_text intel line
is_end SRecords line = ends_text s_records line

-- what a tail is accepted with: no data record, and no start
abbrev pub nothing_met : Loading
nothing_met = Ok (record { records = 0; start = None })

-- what a line comes to that is passed over: only the end decides
abbrev pub passes : (at_end : Bool) → CodeBase → CodeTally → Turn
passes at_end base tally = if at_end then turn.Stop nothing_met else turn.On base tally

-- ---- the next line of a chunk

-- what a turn comes to, with where the reader stands after it
abbrev pub hears : (after : Chunks) → Turn → Heard
hears after (turn.On base tally) = heard.On (record { reader = after; base = base; tally = tally })
hears after (turn.Stop l) = heard.Stop l after.position

-- the line that was found last came to a turn, and this is heard of it
pub record LineHeard (way : Way) (bytes : List ℕ) (skipped : ℕ) (after : Chunks) (w : Walk) (first : ℕ) (page₀ marks₀ : List ℕ) (h : Heard) (page' marks' : List ℕ) : Type 0 where
  pub came : Turn
  pub turned : Turned way bytes skipped after.line w.base w.tally first page₀ marks₀ came page' marks'
  pub answer : h ≡ hears after came

-- how many lines have ended: those up to the last that was found, and the empty ones after it
abbrev pub count_of : Chunks → ℕ
count_of r = (r.line + r.empties) % 2 ^ 64

-- the reader can go on: its carry is long enough, and it is not finished
pub record UnderWay (r : Chunks) (carry : List ℕ) : Type 0 where
  pub big_enough : too_small r carry ≡ false
  pub going : r.finished ≡ false

-- what is still to come of a chunk, from where a walk stands, with these placements stated before
abbrev pub to_come : {S : Type 0} → Source S → StandingBy S → (inside : ℕ → Bool) (w : Walk) (chunk carry : List ℕ) → List Placement → Fed S
to_come src standing inside w chunk carry qs =
    fed (takes src inside) (count_of w.reader) (standing w.base w.tally qs) (begun w.reader carry) (drop w.reader.position chunk)

-- there was no line: the chunk is used up
pub record IsUsedUp {S : Type 0} (src : Source S) (standing : StandingBy S) (first : ℕ) (w : Walk) (chunk carry page₀ marks₀ : List ℕ) (w' : Walk) (carry' page' marks' : List ℕ) : Type 0 where
  pub comes_to : (qs : List Placement) → to_come src standing (within first (length page₀)) w chunk carry qs
      ≡ wants_more (count_of w'.reader) (standing w'.base w'.tally qs) (begun w'.reader carry')
  pub fits : w'.reader.used ≤ 522
  pub page_is : page' ≡ page₀
  pub marks_are : marks' ≡ marks₀

-- there was one, and the load goes on after it
pub record WentOn {S : Type 0} (src : Source S) (standing : StandingBy S) (first : ℕ) (w : Walk) (chunk carry page₀ marks₀ : List ℕ) (w' : Walk) (carry' page' marks' : List ℕ) : Type 0 where
  pub stated : List Placement
  pub comes_to : (qs : List Placement) → to_come src standing (within first (length page₀)) w chunk carry qs
      ≡ to_come src standing (within first (length page₀)) w' chunk carry' (qs ++ stated)
  pub paints : Painted (window first (length page₀)) stated page₀ marks₀ page' marks'
  pub under_way : UnderWay w'.reader carry'
  pub further : w.reader.position < w'.reader.position
  pub inside : w'.reader.position ≤ length chunk

-- there was one, and it has decided
pub record StoppedAt {S : Type 0} (src : Source S) (standing : StandingBy S) (first : ℕ) (w : Walk) (chunk carry page₀ marks₀ : List ℕ) (v : Verdict) (used : ℕ) (page' marks' : List ℕ) : Type 0 where
  pub line : ℕ
  pub stated : List Placement
  pub comes_to : (qs : List Placement) → to_come src standing (within first (length page₀)) w chunk carry qs ≡ decided line v (qs ++ stated) (drop used chunk)
  pub paints : Painted (window first (length page₀)) stated page₀ marks₀ page' marks'
  pub inside : used ≤ length chunk

abbrev pub HeardBy : {S : Type 0} → Source S → StandingBy S → (first : ℕ) (w : Walk) (chunk carry page₀ marks₀ : List ℕ) → Heard → (carry' page' marks' : List ℕ) → Type 0
HeardBy src standing first w chunk carry page₀ marks₀ (heard.UsedUp w') carry' page' marks' = IsUsedUp src standing first w chunk carry page₀ marks₀ w' carry' page' marks'
HeardBy src standing first w chunk carry page₀ marks₀ (heard.On w') carry' page' marks' = WentOn src standing first w chunk carry page₀ marks₀ w' carry' page' marks'
HeardBy src standing first w chunk carry page₀ marks₀ (heard.Stop l used) carry' page' marks' = StoppedAt src standing first w chunk carry page₀ marks₀ (told_loading l) used page' marks'

abbrev pub KeepsOn : Way → Walk → Heard → Type 0
KeepsOn way w (heard.UsedUp w') = way.stays w.base w.tally w'.base w'.tally
KeepsOn way w (heard.On w') = way.stays w.base w.tally w'.base w'.tally
KeepsOn way w (heard.Stop l used) = Unit

abbrev pub HeardSo : Way → (first : ℕ) (w : Walk) (chunk carry page₀ marks₀ : List ℕ) → Heard → (carry' page' marks' : List ℕ) → Type 0
HeardSo way first w chunk carry page₀ marks₀ h carry' page' marks' =
    HeardBy way.source way.standing first w chunk carry page₀ marks₀ h carry' page' marks' × KeepsOn way w h

-- ---- all lines of a chunk

-- where a walk has come, line after line
pub record Came {S : Type 0} (src : Source S) (standing : StandingBy S) (first : ℕ) (w₀ : Walk) (chunk carry₀ page₀ marks₀ : List ℕ) (w : Walk) (carry page marks : List ℕ) : Type 0 where
  pub stated : List Placement
  pub comes_to : (qs : List Placement) → to_come src standing (within first (length page₀)) w₀ chunk carry₀ qs ≡ to_come src standing (within first (length page₀)) w chunk carry (qs ++ stated)
  pub paints : Painted (window first (length page₀)) stated page₀ marks₀ page marks
  pub under_way : UnderWay w.reader carry

-- it has come to the end of the chunk
pub record CameThrough {S : Type 0} (src : Source S) (standing : StandingBy S) (first : ℕ) (w₀ : Walk) (chunk carry₀ page₀ marks₀ : List ℕ) (w : Walk) (carry page marks : List ℕ) : Type 0 where
  pub stated : List Placement
  pub comes_to : (qs : List Placement) → to_come src standing (within first (length page₀)) w₀ chunk carry₀ qs
      ≡ wants_more (count_of w.reader) (standing w.base w.tally (qs ++ stated)) (begun w.reader carry)
  pub fits : w.reader.used ≤ 522
  pub paints : Painted (window first (length page₀)) stated page₀ marks₀ page marks

-- ---- between two chunks

-- where a load stands at the front of a chunk
abbrev pub walk_of : Intake → Walk
walk_of s =
    record {
      reader = record { position = 0; line = s.line; empties = 0; used = s.used; skipped = s.skipped; cr = s.cr; finished = false; options = default_options };
      base = s.base;
      tally = s.tally;
    }

-- and after one that is used up
abbrev pub paused : Kind → (tail : Bool) → Walk → Intake
paused kind tail w =
    record {
      kind = kind;
      tail = tail;
      line = count_of w.reader;
      used = w.reader.used;
      skipped = if nat_lt w.reader.used 522 then 0 else w.reader.skipped;
      cr = w.reader.cr;
      base = w.base;
      tally = (way_of kind tail).held w.tally;
    }

-- ---- the reply to a chunk

-- the chunk is used up, and this state says where the load stands then
pub record UsedUpAs (kind : Kind) (tail : Bool) (first : ℕ) (w₀ : Walk) (chunk carry₀ page₀ marks₀ : List ℕ) (s : Intake) (carry page marks : List ℕ) : Type 0 where
  pub end : Walk
  pub came : CameThrough (way_of kind tail).source (way_of kind tail).standing first w₀ chunk carry₀ page₀ marks₀ end carry page marks
  pub stays : (way_of kind tail).stays w₀.base w₀.tally end.base end.tally
  pub answer : s ≡ paused kind tail end

abbrev pub AllSo : Kind → (tail : Bool) (first : ℕ) (w : Walk) (chunk carry page₀ marks₀ : List ℕ) → Reply → (carry' page' marks' : List ℕ) → Type 0
AllSo kind tail first w chunk carry page₀ marks₀ (WantsMore s) carry' page' marks' = UsedUpAs kind tail first w chunk carry page₀ marks₀ s carry' page' marks'
AllSo kind tail first w chunk carry page₀ marks₀ (Decided l used) carry' page' marks' =
    StoppedAt (way_of kind tail).source (way_of kind tail).standing first w chunk carry page₀ marks₀ (told_loading l) used page' marks'
AllSo kind tail first w chunk carry page₀ marks₀ CarryTooSmall carry' page' marks' = ⊥
