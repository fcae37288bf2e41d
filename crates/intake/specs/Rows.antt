-- Rows of calls of a load that is fed, each known by its contract alone, beside a load of the whole text: wherever the chunks are cut, and whatever
-- carry, staging page and staging marks held. The claims on every row are proved in `proofs/Rows.antt`, those on tails alone in `proofs/Tails.antt`.
-- Assumes nothing.
use Rattle.std.specs.Prelude.{◌≡◌, ℕ, suc, ◌^◌, ◌<◌, ◌≤◌, Bool, true, false, List, [], ◌∷◌, ◌++◌, length, drop}
use Rattle.std.proofs.Math.Option.{none, some}
use Rattle.digits.specs.Common.{Every}
use Rattle.std.specs.Prelude.{if◌then◌else◌}
use Rattle.marks.specs.Claims.{Bytes}
use Rattle.reader.specs.Lines.{CR, lines, through}
use Rattle.chunks.specs.Rows.{joined}
use Rattle.steps.specs.Aliases.{Loading}
use Rattle.steps.specs.Steps.{Tally, nothing_yet, Verdict, accepted, by, decision, stated}
use Rattle.steps.specs.Source.{Source, steps_of}
use Rattle.steps.specs.Told.{told_loading}
use Rattle.window.specs.Window.{unfit, within, window}
use Rattle.window.specs.Promises.{Painted}
use Rattle.window.specs.Load.{stopping_by_window, load_window}
use Rattle.intake.specs.declared.Kind.{Kind}
use Rattle.intake.specs.declared.Intake.{Intake}
use Rattle.intake.specs.declared.Reply.TheVariants.{WantsMore, Decided}
use Rattle.intake.specs.Ways.{way_of}
use Rattle.intake.specs.Helpers.{is_end}
use Rattle.intake.specs.Intake.{fresh, spoilt, Feeds}
use Rattle.intake.specs.Ending.{Finishes}
use Rattle.std.specs.Prelude.{None, Ok, Some}

-- ---- a row

-- calls of `feed` from a state on, chunk after chunk, while more is wanted; carry, staging page and staging marks pass from one call to the next
pub data Row (first : ℕ) (s₀ : Intake) (carry₀ stage₀ stated₀ : List ℕ) : (chunks : List (List ℕ)) (s : Intake) (carry stage stated : List ℕ) → Type 0 where
  no_chunk : Row first s₀ carry₀ stage₀ stated₀ [] s₀ carry₀ stage₀ stated₀
  and_then : {chunks : List (List ℕ)} {s : Intake} {carry stage stated : List ℕ} (chunk : List ℕ) (s' : Intake) (carry' stage' stated' : List ℕ)
      → Row first s₀ carry₀ stage₀ stated₀ chunks s carry stage stated → Feeds s chunk carry first stage stated (WantsMore s') carry' stage' stated'
      → Row first s₀ carry₀ stage₀ stated₀ (chunks ++ (chunk ∷ [])) s' carry' stage' stated'

-- ---- beside a load of the text into a page with marks

-- the answer is the load's; and if that accepts, what the text states was painted on the staging page and marks of the row's beginning
pub record AsLoad {S : Type 0} (src : Source S) (text : List ℕ) (first : ℕ) (page marks stage₀ stated₀ : List ℕ) (l : Loading) (stage' stated' : List ℕ) : Type 0 where
  pub answer : (load_window src text first page marks).answer ≡ told_loading l
  pub paints : (t : Tally) → (load_window src text first page marks).answer ≡ accepted t → Painted (window first (length page)) (stated (steps_of src text)) stage₀ stated₀ stage' stated'

-- the line by which the load stops, with 0 for a window that is refused: the text through its LF was used, and this is left of the text
pub record UsedThrough {S : Type 0} (src : Source S) (text : List ℕ) (first : ℕ) (page marks : List ℕ) (l : Loading) (left : List ℕ) : Type 0 where
  pub line : ℕ
  pub stops : stopping_by_window src text first page marks ≡ some (by line (told_loading l))
  pub head : List ℕ
  pub is_through : through line text ≡ some head
  pub whole : head ++ left ≡ text

-- ---- where a row begins

-- before the first line of a text or of a tail; a CR may wait that came before the row. Without one these are the states of `begin` and of `begin_tail`
abbrev pub opened : Kind → (tail cr : Bool) → Intake
opened kind tail cr =
    let s = fresh kind tail in
    record { kind = s.kind; tail = s.tail; line = s.line; used = s.used; skipped = s.skipped; cr = cr; base = s.base; tally = s.tally }

-- what such a state holds of its text
abbrev pub cr_before : (cr : Bool) → List ℕ
cr_before cr = if cr then CR ∷ [] else []

-- the text of a row's chunks
abbrev pub text_of : (cr : Bool) (chunks : List (List ℕ)) → List ℕ
text_of cr chunks = cr_before cr ++ joined chunks

-- ---- a row and the call after it, for a text or a tail of a kind

module _ (kind : Kind) (tail cr : Bool) where
  -- a chunk that decides, whatever follows it. In a window that is refused no byte is used; a CR that waited is not in what is left then
  abbrev pub DecidesFrom : Type 0
  DecidesFrom =
      (first : ℕ) (carry₀ stage₀ stated₀ : List ℕ) (s₀ : Intake) → s₀ ≡ opened kind tail cr
      → (chunks : List (List ℕ)) (s : Intake) (carry stage stated : List ℕ) → Row first s₀ carry₀ stage₀ stated₀ chunks s carry stage stated
      → (chunk : List ℕ) (l : Loading) (used : ℕ) (carry' stage' stated' : List ℕ) → Feeds s chunk carry first stage stated (Decided l used) carry' stage' stated'
      → (more page marks : List ℕ) → let text = text_of cr chunks ++ (chunk ++ more) in
      suc (length text) < 2 ^ 64 → length page ≡ length stage₀ → length marks ≡ length stated₀
      → AsLoad (way_of kind tail).source text first page marks stage₀ stated₀ l stage' stated'
      × ((cr ≡ true → unfit first (length stage₀) (length stated₀) ≡ false) → UsedThrough (way_of kind tail).source text first page marks l (drop used chunk ++ more))
      × (used ≤ length chunk)

  -- the end of the text
  abbrev pub EndsFrom : Type 0
  EndsFrom =
      (first : ℕ) (carry₀ stage₀ stated₀ : List ℕ) (s₀ : Intake) → s₀ ≡ opened kind tail cr
      → (chunks : List (List ℕ)) (s : Intake) (carry stage stated : List ℕ) → Row first s₀ carry₀ stage₀ stated₀ chunks s carry stage stated
      → (l : Loading) (carry' stage' stated' : List ℕ) → Finishes s carry first stage stated (Some l) carry' stage' stated'
      → (page marks : List ℕ) → suc (length (text_of cr chunks)) < 2 ^ 64 → length page ≡ length stage₀ → length marks ≡ length stated₀
      → AsLoad (way_of kind tail).source (text_of cr chunks) first page marks stage₀ stated₀ l stage' stated'

  -- after a row the LF of the line that decides has not come, whatever follows
  abbrev pub WaitsFrom : Type 0
  WaitsFrom =
      (first : ℕ) (carry₀ stage₀ stated₀ : List ℕ) (s₀ : Intake) → s₀ ≡ opened kind tail cr
      → (chunks : List (List ℕ)) (s : Intake) (carry stage stated : List ℕ) → Row first s₀ carry₀ stage₀ stated₀ chunks s carry stage stated
      → (more : List ℕ) → suc (length (text_of cr chunks)) < 2 ^ 64
      → (m : ℕ) (v : Verdict) → decision (within first (length stage₀)) nothing_yet (steps_of (way_of kind tail).source (text_of cr chunks ++ more)) ≡ some (by m v)
      → through m (text_of cr chunks) ≡ none

-- as soon as a call of `feed` decides, it has decided as the load of the whole text, wherever the chunks were cut
abbrev pub RowDecides : Type 0
RowDecides = (kind : Kind) (tail cr : Bool) → DecidesFrom kind tail cr

-- where the text ends with nothing decided, `finish` decides so
abbrev pub RowEnds : Type 0
RowEnds = (kind : Kind) (tail cr : Bool) → EndsFrom kind tail cr

-- and no call is late
abbrev pub RowWaits : Type 0
RowWaits = (kind : Kind) (tail cr : Bool) → WaitsFrom kind tail cr

-- a carry that is large enough for the first call is so for every call
abbrev pub RowCarries : Type 0
RowCarries =
    (first : ℕ) (s₀ : Intake) (carry₀ stage₀ stated₀ : List ℕ) (chunks : List (List ℕ)) (s : Intake) (carry stage stated : List ℕ)
    → Row first s₀ carry₀ stage₀ stated₀ chunks s carry stage stated → spoilt s₀ carry₀ ≡ false → spoilt s carry ≡ false

-- ---- tails

-- line n is the first that ends a text of this kind
pub record FirstEnd (kind : Kind) (text : List ℕ) (n : ℕ) : Type 0 where
  pub ahead : List (List ℕ)
  pub line : List ℕ
  pub later : List (List ℕ)
  pub lines_are : lines text ≡ ahead ++ (line ∷ later)
  pub none_ahead : Every (λ (l : List ℕ). is_end kind l ≡ false) ahead
  pub at_end : is_end kind line ≡ true
  pub number : n ≡ suc (length ahead)

-- the text was used through the LF of that line, and this is left of it
pub record PassedThrough (kind : Kind) (text left : List ℕ) : Type 0 where
  pub line : ℕ
  pub ends_there : FirstEnd kind text line
  pub head : List ℕ
  pub is_through : through line text ≡ some head
  pub whole : head ++ left ≡ text

-- a tail that is decided in a window is accepted, and has met nothing: so it never refuses. It ends after its first end record, whatever follows, and
-- staging page and marks are what they were
abbrev pub TailDecides : Type 0
TailDecides =
    (kind : Kind) (cr : Bool) (first : ℕ) (carry₀ stage₀ stated₀ : List ℕ) (s₀ : Intake) → s₀ ≡ opened kind true cr
    → (chunks : List (List ℕ)) (s : Intake) (carry stage stated : List ℕ) → Row first s₀ carry₀ stage₀ stated₀ chunks s carry stage stated
    → (chunk : List ℕ) (l : Loading) (used : ℕ) (carry' stage' stated' : List ℕ) → Feeds s chunk carry first stage stated (Decided l used) carry' stage' stated'
    → unfit first (length stage₀) (length stated₀) ≡ false
    → (more : List ℕ) → let text = text_of cr chunks ++ (chunk ++ more) in suc (length text) < 2 ^ 64
    → (l ≡ Ok (record { records = 0; start = None }))
    × PassedThrough kind text (drop used chunk ++ more)
    × (used ≤ length chunk)
    × (stage' ≡ stage₀)
    × (Bytes stated₀ → stated' ≡ stated₀)

-- while it wants more, the LF of its first end record has not come, whatever follows
abbrev pub TailWaits : Type 0
TailWaits =
    (kind : Kind) (cr : Bool) (first : ℕ) (carry₀ stage₀ stated₀ : List ℕ) (s₀ : Intake) → s₀ ≡ opened kind true cr
    → (chunks : List (List ℕ)) (s : Intake) (carry stage stated : List ℕ) → Row first s₀ carry₀ stage₀ stated₀ chunks s carry stage stated
    → (more : List ℕ) → suc (length (text_of cr chunks)) < 2 ^ 64
    → (n : ℕ) → FirstEnd kind (text_of cr chunks ++ more) n → through n (text_of cr chunks) ≡ none

-- and nothing is staged
abbrev pub TailStagesNothing : Type 0
TailStagesNothing =
    (kind : Kind) (cr : Bool) (first : ℕ) (carry₀ stage₀ stated₀ : List ℕ) (s₀ : Intake) → s₀ ≡ opened kind true cr
    → (chunks : List (List ℕ)) (s : Intake) (carry stage stated : List ℕ) → Row first s₀ carry₀ stage₀ stated₀ chunks s carry stage stated
    → (stage ≡ stage₀) × (Bytes stated₀ → stated ≡ stated₀)
