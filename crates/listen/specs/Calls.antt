-- Rows of calls of a listener, each known by its contract alone, dump by dump: what is said is what a load of the text from where the dump begins says,
-- and what is left is what follows the LF of the line that decides it. Proved in `proofs/Calls.antt`, and beside `listen` in `proofs/Heard.antt` and `proofs/Streams.antt`.
-- Assumes nothing.
use Rattle.std.specs.Prelude.{ℕ, suc, ◌^◌, ◌≤◌, ◌<◌, ◌≡◌, Bool, true, false, List, [], ◌∷◌, ◌++◌, map, length, drop, replicate}
use Rattle.marks.specs.Claims.{Bytes}
use Rattle.reader.specs.Lines.{lines}
use Rattle.steps.specs.Aliases.{Loading}
use Rattle.steps.specs.declared.Tally.{Tally}
use Rattle.steps.specs.Steps.{Verdict, stated as stated-in}
use Rattle.steps.specs.Source.{steps_of}
use Rattle.steps.specs.Told.{told_loading}
use Rattle.window.specs.Window.{unfit, within}
use Rattle.window.specs.Load.{load_window}
use Rattle.intake.specs.declared.Kind.{Kind}
use Rattle.intake.specs.Ways.{way_of}
use Rattle.intake.specs.Intake.{new_tail}
use Rattle.intake.specs.Rows.{cr_before, AsLoad, UsedThrough, PassedThrough}
use Rattle.listen.specs.declared.Listener.{Listener}
use Rattle.listen.specs.declared.Listener.TheVariants.{Front, Within, Ready}
use Rattle.listen.specs.declared.Said.TheVariants.{WantsMore, Decided, Passed}
use Rattle.listen.specs.declared.Step.{Step}
use Rattle.listen.specs.Aliases.{Committed}
use Rattle.listen.specs.Listen.{Mode, front, skipping, Saying, said, reaching, mode_after, first as saying-first, listen, stretch}
use Rattle.listen.specs.Listener.{begins, blanks, after, after_end, too_small, Hears, Pauses, Commits}
use Rattle.std.specs.Prelude.{Ok}

-- ---- a row

-- calls of `feed` from where listening stands, while more is wanted: these bytes were used; carry, staging page and staging marks pass from one call
-- to the next
pub data Listens (first : ℕ) (l₀ : Listener) (carry₀ stage₀ stated₀ : List ℕ) : (bytes : List ℕ) (l : Listener) (carry stage stated : List ℕ) → Type 0 where
  no_chunk : Listens first l₀ carry₀ stage₀ stated₀ [] l₀ carry₀ stage₀ stated₀
  and_then : {bytes : List ℕ} {l : Listener} {carry stage stated : List ℕ} (chunk : List ℕ) (r : Step) (carry' stage' stated' : List ℕ)
      → Listens first l₀ carry₀ stage₀ stated₀ bytes l carry stage stated → Hears l chunk carry first stage stated r carry' stage' stated' → r.said ≡ WantsMore
      → Listens first l₀ carry₀ stage₀ stated₀ (bytes ++ chunk) r.listener carry' stage' stated'

-- ---- where a text begins

-- a text of this kind begins here, and a CR may wait before it
abbrev pub BeginsText : Listener → Kind → (cr : Bool) → Type 0
BeginsText (Front kind' cr') kind cr = (kind' ≡ kind) × (cr' ≡ cr)
BeginsText (Within s) kind cr = ⊥
BeginsText (Ready kind') kind cr = (kind' ≡ kind) × (false ≡ cr)

-- the text from the first byte that is not of an empty line
abbrev pub dump_in : (cr : Bool) (bytes : List ℕ) → List ℕ
dump_in cr bytes = cr_before (blanks cr bytes).cr ++ drop (blanks cr bytes).at bytes

-- ---- a dump

-- a dump that is decided, in a window: as a load of the text from its first byte on, whatever follows. What is left is what follows the LF of the line
-- that decides, and listening stands as the rule says. Old staging, its marks and the carry do not matter
abbrev pub DumpDecides : Type 0
DumpDecides =
    (kind : Kind) (cr : Bool) (first : ℕ) (l₀ : Listener) (carry₀ stage₀ stated₀ : List ℕ) → BeginsText l₀ kind cr → unfit first (length stage₀) (length stated₀) ≡ false
    → (bytes : List ℕ) (l : Listener) (carry stage stated : List ℕ) → Listens first l₀ carry₀ stage₀ stated₀ bytes l carry stage stated
    → (chunk : List ℕ) (r : Step) (carry' stage' stated' : List ℕ) (answer : Loading) → Hears l chunk carry first stage stated r carry' stage' stated' → r.said ≡ Decided answer
    → (more page marks : List ℕ) → let text = dump_in cr (bytes ++ (chunk ++ more)) in
    suc (length text) < 2 ^ 64 → length page ≡ length stage₀ → length marks ≡ length stated₀
    → AsLoad (way_of kind false).source text first page marks stage₀ (replicate (length stated₀) 0) answer stage' stated'
    × UsedThrough (way_of kind false).source text first page marks answer (drop r.used chunk ++ more)
    × (r.used ≤ length chunk)
    × (r.listener ≡ after kind answer)

-- a dump that is accepted and then committed: page and marks are what a load of its text leaves, and the next dump begins
abbrev pub DumpCommits : Type 0
DumpCommits =
    (kind : Kind) (cr : Bool) (first : ℕ) (l₀ : Listener) (carry₀ stage₀ stated₀ : List ℕ) → BeginsText l₀ kind cr → unfit first (length stage₀) (length stated₀) ≡ false
    → (bytes : List ℕ) (l : Listener) (carry stage stated : List ℕ) → Listens first l₀ carry₀ stage₀ stated₀ bytes l carry stage stated
    → (chunk : List ℕ) (r : Step) (carry' stage' stated' : List ℕ) (t : Tally) → Hears l chunk carry first stage stated r carry' stage' stated' → r.said ≡ Decided (Ok t)
    → (page marks : List ℕ) (done : Committed) (page' marks' : List ℕ) → Commits r.listener stage' stated' page marks done page' marks'
    → (more : List ℕ) → let text = dump_in cr (bytes ++ (chunk ++ more)) in
    suc (length text) < 2 ^ 64 → length page ≡ length stage₀ → length marks ≡ length stated₀
    → (done ≡ Ok (Front kind false)) × (page' ≡ (load_window (way_of kind false).source text first page marks).page) × (marks' ≡ (load_window (way_of kind false).source text first page marks).marks)

-- so what is said is what `listen` says of the lines, and what is left is heard as from where listening stands
abbrev pub DumpIsHeard : Type 0
DumpIsHeard =
    (kind : Kind) (cr : Bool) (first : ℕ) (l₀ : Listener) (carry₀ stage₀ stated₀ : List ℕ) → BeginsText l₀ kind cr → unfit first (length stage₀) (length stated₀) ≡ false
    → (bytes : List ℕ) (l : Listener) (carry stage stated : List ℕ) → Listens first l₀ carry₀ stage₀ stated₀ bytes l carry stage stated
    → (chunk : List ℕ) (r : Step) (carry' stage' stated' : List ℕ) (answer : Loading) → Hears l chunk carry first stage stated r carry' stage' stated' → r.said ≡ Decided answer
    → (more : List ℕ) → let text = dump_in cr (bytes ++ (chunk ++ more)) in suc (length text) < 2 ^ 64
    → let src = (way_of kind false).source in
    let inside = within first (length stage₀) in
    let v = told_loading answer in
    listen src inside front (lines (cr_before cr ++ (bytes ++ (chunk ++ more))))
    ≡ saying-first (said v (reaching v (stated-in (steps_of src text))) ∷ []) (listen src inside (mode_after v) (lines (drop r.used chunk ++ more)))

-- a pause in a dump: it has the answer of a load of its text, which ends here
abbrev pub DumpEnds : Type 0
DumpEnds =
    (kind : Kind) (cr : Bool) (first : ℕ) (l₀ : Listener) (carry₀ stage₀ stated₀ : List ℕ) → BeginsText l₀ kind cr → unfit first (length stage₀) (length stated₀) ≡ false
    → (bytes : List ℕ) (l : Listener) (carry stage stated : List ℕ) → Listens first l₀ carry₀ stage₀ stated₀ bytes l carry stage stated
    → (r : Step) (carry' stage' stated' : List ℕ) (answer : Loading) → Pauses l carry first stage stated r carry' stage' stated' → r.said ≡ Decided answer
    → (page marks : List ℕ) → suc (length (dump_in cr bytes)) < 2 ^ 64 → length page ≡ length stage₀ → length marks ≡ length stated₀
    → AsLoad (way_of kind false).source (dump_in cr bytes) first page marks stage₀ (replicate (length stated₀) 0) answer stage' stated' × (r.listener ≡ after_end kind answer)

-- one that is accepted so and then committed: page and marks are what that load leaves, and the next dump begins
abbrev pub EndCommits : Type 0
EndCommits =
    (kind : Kind) (cr : Bool) (first : ℕ) (l₀ : Listener) (carry₀ stage₀ stated₀ : List ℕ) → BeginsText l₀ kind cr → unfit first (length stage₀) (length stated₀) ≡ false
    → (bytes : List ℕ) (l : Listener) (carry stage stated : List ℕ) → Listens first l₀ carry₀ stage₀ stated₀ bytes l carry stage stated
    → (r : Step) (carry' stage' stated' : List ℕ) (t : Tally) → Pauses l carry first stage stated r carry' stage' stated' → r.said ≡ Decided (Ok t)
    → (page marks : List ℕ) (done : Committed) (page' marks' : List ℕ) → Commits r.listener stage' stated' page marks done page' marks'
    → let text = dump_in cr bytes in
    suc (length text) < 2 ^ 64 → length page ≡ length stage₀ → length marks ≡ length stated₀
    → (done ≡ Ok (Front kind false)) × (page' ≡ (load_window (way_of kind false).source text first page marks).page) × (marks' ≡ (load_window (way_of kind false).source text first page marks).marks)

-- and what is said of it is what `listen` says of the lines up to a pause
abbrev pub EndIsHeard : Type 0
EndIsHeard =
    (kind : Kind) (cr : Bool) (first : ℕ) (l₀ : Listener) (carry₀ stage₀ stated₀ : List ℕ) → BeginsText l₀ kind cr → unfit first (length stage₀) (length stated₀) ≡ false
    → (bytes : List ℕ) (l : Listener) (carry stage stated : List ℕ) → Listens first l₀ carry₀ stage₀ stated₀ bytes l carry stage stated
    → (r : Step) (carry' stage' stated' : List ℕ) (answer : Loading) → Pauses l carry first stage stated r carry' stage' stated' → r.said ≡ Decided answer
    → suc (length (dump_in cr bytes)) < 2 ^ 64
    → let src = (way_of kind false).source in
    let v = told_loading answer in
    stretch src (within first (length stage₀)) front (lines (cr_before cr ++ bytes)) ≡ record { says = said v (reaching v (stated-in (steps_of src (dump_in cr bytes)))) ∷ []; mode = front }

-- ---- what is passed over

-- from an unknown place, or after a refused dump: no dump is decided, and what is passed over ends after its first end record, whatever follows.
-- Staging is what it was, and a text begins
abbrev pub TailPasses : Type 0
TailPasses =
    (kind : Kind) (first : ℕ) (carry₀ stage₀ stated₀ : List ℕ) → unfit first (length stage₀) (length stated₀) ≡ false
    → (bytes : List ℕ) (l : Listener) (carry stage stated : List ℕ) → Listens first (Within (new_tail kind)) carry₀ stage₀ stated₀ bytes l carry stage stated
    → (chunk : List ℕ) (r : Step) (carry' stage' stated' : List ℕ) → Hears l chunk carry first stage stated r carry' stage' stated'
    → (more : List ℕ) → let text = bytes ++ (chunk ++ more) in suc (length text) < 2 ^ 64
    → ((answer : Loading) → r.said ≡ Decided answer → ⊥)
    × (r.said ≡ Passed
    → PassedThrough kind text (drop r.used chunk ++ more) × (r.used ≤ length chunk) × (r.listener ≡ Front kind false) × (stage' ≡ stage₀) × (Bytes stated₀ → stated' ≡ stated₀))

-- so nothing is said, and what is left is heard as from a known beginning
abbrev pub TailIsHeard : Type 0
TailIsHeard =
    (kind : Kind) (first : ℕ) (carry₀ stage₀ stated₀ : List ℕ) → unfit first (length stage₀) (length stated₀) ≡ false
    → (bytes : List ℕ) (l : Listener) (carry stage stated : List ℕ) → Listens first (Within (new_tail kind)) carry₀ stage₀ stated₀ bytes l carry stage stated
    → (chunk : List ℕ) (r : Step) (carry' stage' stated' : List ℕ) → Hears l chunk carry first stage stated r carry' stage' stated' → r.said ≡ Passed
    → (more : List ℕ) → suc (length (bytes ++ (chunk ++ more))) < 2 ^ 64
    → let src = (way_of kind false).source in
    let inside = within first (length stage₀) in
    listen src inside skipping (lines (bytes ++ (chunk ++ more))) ≡ listen src inside front (lines (drop r.used chunk ++ more))

-- ---- a pause

abbrev pub kind_of : Listener → Kind
kind_of (Front kind cr) = kind
kind_of (Within s) = s.kind
kind_of (Ready kind) = kind

-- after a pause a text begins, wherever listening stood
abbrev pub PauseBegins : Type 0
PauseBegins =
    (l : Listener) (carry : List ℕ) (first : ℕ) (stage stated : List ℕ) (r : Step) (carry' stage' stated' : List ℕ) → Pauses l carry first stage stated r carry' stage' stated'
    → too_small l (length carry) ≡ false → unfit first (length stage) (length stated) ≡ false → BeginsText r.listener (kind_of l) false

-- ---- call after call

-- calls of `feed` on a stream, with the rest of a chunk given to the next call, and of `commit` where a dump is ready: these dumps were decided, and this
-- is left
pub data Calls (first : ℕ) (l₀ : Listener) (carry₀ stage₀ stated₀ stream : List ℕ) : (answers : List Loading) (left : List ℕ) (l : Listener) (carry stage stated : List ℕ) → Type 0 where
  no_call : Calls first l₀ carry₀ stage₀ stated₀ stream [] stream l₀ carry₀ stage₀ stated₀
  wanting : {answers : List Loading} {left : List ℕ} {l : Listener} {carry stage stated : List ℕ} (chunk more : List ℕ) (r : Step) (carry' stage' stated' : List ℕ)
      → Calls first l₀ carry₀ stage₀ stated₀ stream answers left l carry stage stated → left ≡ chunk ++ more → Hears l chunk carry first stage stated r carry' stage' stated' → r.said ≡ WantsMore
      → Calls first l₀ carry₀ stage₀ stated₀ stream answers (drop r.used chunk ++ more) r.listener carry' stage' stated'
  deciding : {answers : List Loading} {left : List ℕ} {l : Listener} {carry stage stated : List ℕ} (chunk more : List ℕ) (r : Step) (carry' stage' stated' : List ℕ) (answer : Loading)
      → Calls first l₀ carry₀ stage₀ stated₀ stream answers left l carry stage stated → left ≡ chunk ++ more → Hears l chunk carry first stage stated r carry' stage' stated' → r.said ≡ Decided answer
      → Calls first l₀ carry₀ stage₀ stated₀ stream (answers ++ (answer ∷ [])) (drop r.used chunk ++ more) r.listener carry' stage' stated'
  passing : {answers : List Loading} {left : List ℕ} {l : Listener} {carry stage stated : List ℕ} (chunk more : List ℕ) (r : Step) (carry' stage' stated' : List ℕ)
      → Calls first l₀ carry₀ stage₀ stated₀ stream answers left l carry stage stated → left ≡ chunk ++ more → Hears l chunk carry first stage stated r carry' stage' stated' → r.said ≡ Passed
      → Calls first l₀ carry₀ stage₀ stated₀ stream answers (drop r.used chunk ++ more) r.listener carry' stage' stated'
  committing : {answers : List Loading} {left : List ℕ} {l : Listener} {carry stage stated : List ℕ} (page marks : List ℕ) (l' : Listener) (page' marks' : List ℕ)
      → Calls first l₀ carry₀ stage₀ stated₀ stream answers left l carry stage stated → Commits l stage stated page marks (Ok l') page' marks'
      → Calls first l₀ carry₀ stage₀ stated₀ stream answers left l' carry stage stated

abbrev pub verdict_of : Saying → Verdict
verdict_of (said v ps) = v

abbrev pub first_mode : {S : Type 0} → (known : Bool) → Mode S
first_mode true = front
first_mode false = skipping

-- what was decided, call by call, is what `listen` says first of the lines of the stream; the rest of what it says is said of the dump that is open and
-- of what is left
abbrev pub CallsListen : Type 0
CallsListen =
    (kind : Kind) (known : Bool) (first : ℕ) (carry₀ stage₀ stated₀ stream : List ℕ) → unfit first (length stage₀) (length stated₀) ≡ false → suc (length stream) < 2 ^ 64
    → (answers : List Loading) (left : List ℕ) (l : Listener) (carry stage stated : List ℕ) → Calls first (begins kind known) carry₀ stage₀ stated₀ stream answers left l carry stage stated
    → let src = (way_of kind false).source in
    let inside = within first (length stage₀) in
    (says : List Saying) × (mode : Mode (way_of kind false).State) × (begun : List ℕ)
    × (map verdict_of says ≡ map told_loading answers)
    × (listen src inside (first_mode known) (lines stream) ≡ saying-first says (listen src inside mode (lines (begun ++ left))))
