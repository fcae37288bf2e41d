-- What a row of a listener's calls can say, and that no call is late: while more is wanted, the LF of the line that decides has not come. Proved in
-- `proofs/Waiting.antt`.
-- Assumes nothing.
use Rattle.std.specs.Prelude.{ℕ, suc, ◌^◌, ◌≤◌, ◌<◌, ◌≡◌, ◌↔◌, ◌⊎◌, Bool, true, false, List, ◌++◌, length}
use Rattle.std.proofs.Math.Option.{none, some}
use Rattle.reader.specs.Lines.{through}
use Rattle.steps.specs.Aliases.{Loading}
use Rattle.steps.specs.Steps.{nothing_yet, Verdict, by, decision}
use Rattle.steps.specs.Source.{steps_of}
use Rattle.window.specs.Window.{unfit, within}
use Rattle.intake.specs.declared.Kind.{Kind}
use Rattle.intake.specs.Ways.{way_of}
use Rattle.intake.specs.Intake.{new_tail}
use Rattle.intake.specs.Rows.{FirstEnd}
use Rattle.listen.specs.declared.Listener.{Listener}
use Rattle.listen.specs.declared.Listener.TheVariants.{Within}
use Rattle.listen.specs.declared.Said.TheVariants.{WantsMore, Decided, Passed, CarryTooSmall}
use Rattle.listen.specs.declared.Step.{Step}
use Rattle.listen.specs.Listener.{too_small, Hears, Pauses}
use Rattle.listen.specs.Calls.{Listens, BeginsText, dump_in}

-- ---- one call

-- 18 is said exactly if the carry does not fit the listener, of a chunk and of a pause
abbrev pub EighteenExactly : Type 0
EighteenExactly =
    (l : Listener) (chunk carry : List ℕ) (first : ℕ) (stage stated : List ℕ) (r : Step) (carry' stage' stated' : List ℕ)
    → Hears l chunk carry first stage stated r carry' stage' stated' ⊎ Pauses l carry first stage stated r carry' stage' stated'
    → (r.said ≡ CarryTooSmall) ↔ (too_small l (length carry) ≡ true)

-- ---- a dump

-- from where a text begins, in a window and with a carry of 522 bytes or more: more is wanted, or a dump is decided
abbrev pub DumpSays : Type 0
DumpSays =
    (kind : Kind) (cr : Bool) (first : ℕ) (l₀ : Listener) (carry₀ stage₀ stated₀ : List ℕ) → BeginsText l₀ kind cr → unfit first (length stage₀) (length stated₀) ≡ false → 522 ≤ length carry₀
    → (bytes : List ℕ) (l : Listener) (carry stage stated : List ℕ) → Listens first l₀ carry₀ stage₀ stated₀ bytes l carry stage stated
    → (chunk : List ℕ) (r : Step) (carry' stage' stated' : List ℕ) → Hears l chunk carry first stage stated r carry' stage' stated'
    → (r.said ≡ WantsMore) ⊎ ((answer : Loading) × (r.said ≡ Decided answer))

-- while more is wanted, the line that decides the dump has not come with its LF, whatever follows
abbrev pub DumpWaits : Type 0
DumpWaits =
    (kind : Kind) (cr : Bool) (first : ℕ) (l₀ : Listener) (carry₀ stage₀ stated₀ : List ℕ) → BeginsText l₀ kind cr → unfit first (length stage₀) (length stated₀) ≡ false
    → (bytes : List ℕ) (l : Listener) (carry stage stated : List ℕ) → Listens first l₀ carry₀ stage₀ stated₀ bytes l carry stage stated
    → (more : List ℕ) → suc (length (dump_in cr bytes)) < 2 ^ 64
    → (n : ℕ) (v : Verdict) → decision (within first (length stage₀)) nothing_yet (steps_of (way_of kind false).source (dump_in cr (bytes ++ more))) ≡ some (by n v)
    → through n (dump_in cr bytes) ≡ none

-- ---- what is passed over

-- the same where everything through the next end record is passed over: more is wanted, or that has come
abbrev pub TailSays : Type 0
TailSays =
    (kind : Kind) (first : ℕ) (carry₀ stage₀ stated₀ : List ℕ) → unfit first (length stage₀) (length stated₀) ≡ false → 522 ≤ length carry₀
    → (bytes : List ℕ) (l : Listener) (carry stage stated : List ℕ) → Listens first (Within (new_tail kind)) carry₀ stage₀ stated₀ bytes l carry stage stated
    → (chunk : List ℕ) (r : Step) (carry' stage' stated' : List ℕ) → Hears l chunk carry first stage stated r carry' stage' stated' → suc (length (bytes ++ chunk)) < 2 ^ 64
    → (r.said ≡ WantsMore) ⊎ (r.said ≡ Passed)

-- while more is wanted, the first end record has not come with its LF, whatever follows
abbrev pub TailWaits : Type 0
TailWaits =
    (kind : Kind) (first : ℕ) (carry₀ stage₀ stated₀ : List ℕ) → unfit first (length stage₀) (length stated₀) ≡ false
    → (bytes : List ℕ) (l : Listener) (carry stage stated : List ℕ) → Listens first (Within (new_tail kind)) carry₀ stage₀ stated₀ bytes l carry stage stated
    → (more : List ℕ) → suc (length bytes) < 2 ^ 64 → (n : ℕ) → FirstEnd kind (bytes ++ more) n → through n bytes ≡ none
