-- One byte asked without a page: document 02's thirteenth wish, for every source. A text is read as in a window that holds every address, and the
-- answer is the byte that the last placement at the address states. Each claim is proved in `proofs/Ask.antt`.
-- Assumes nothing.
use Rattle.std.specs.Prelude.{◌≡◌, ◌⊎◌, ℕ, ◌<◌, Bool, true, List, length, get_or}
use Rattle.std.proofs.Math.Option.{Option, none, some}
use Rattle.record.specs.Refusals.{Refusal, outside_window}
use Rattle.reader.specs.Lines.{through}
use Rattle.steps.specs.Steps.{Step, Tally, nothing_yet, Verdict, accepted, refused, by, decision, verdict, stated}
use Rattle.steps.specs.Source.{Source, steps_of}
use Rattle.steps.specs.Sites.{last_at, Room, load}

-- every address is inside
abbrev pub anywhere : ℕ → Bool
anywhere address = true

-- what comes back: the byte, that none is stated, or a refusal with its line
pub data Asked : Type 0 where
  states : (byte : ℕ) → Asked
  not_stated : Asked
  refuses : Refusal → (line : ℕ) → Asked

abbrev pub found : Option ℕ → Asked
found none = not_stated
found (some byte) = states byte

-- a byte is returned only of a text that is accepted
abbrev pub answered : Option ℕ → Verdict → Asked
answered seen (accepted t) = found seen
answered seen (refused r line) = refuses r line

-- the byte that these steps state last at the address
unfoldable pub ask_steps : (address : ℕ) → List Step → Asked
unfolding last_at stated verdict decision
ask_steps address steps = answered (last_at address (stated steps)) (verdict (decision anywhere nothing_yet steps))

-- the byte that a text states last there, as a source reads it
unfoldable pub ask : {S : Type 0} → Source S → (address : ℕ) → (text : List ℕ) → Asked
unfolding ask_steps steps_of
ask src address text = ask_steps address (steps_of src text)

-- ---- what is asked, and what a load leaves

-- an answer and a place: the place is marked and holds the byte; or it is not marked, and keeps what it held
abbrev pub Shows : Asked → (old mark byte : ℕ) → Type 0
Shows (states b) old mark byte = (mark ≡ 1) × (byte ≡ b)
Shows not_stated old mark byte = (mark ≡ 0) × (byte ≡ old)
Shows (refuses r line) old mark byte = ⊥

-- of each text that a load accepts, at every place that shows the address
abbrev pub AskedAsLoaded : Type 1
AskedAsLoaded =
    (S : Type 0) (src : Source S) (room : Room) (text page marks : List ℕ) (t : Tally)
    → let l = load src room text page marks in
    l.answer ≡ accepted t → (i address : ℕ) → i < length page → i < length marks → room.site i ≡ some address
    → Shows (ask src address text) (get_or page i 0) (get_or l.marks i 0) (get_or l.page i 0)

-- the answers go together: both accept the text, or both refuse it alike
abbrev pub Like : Verdict → Asked → Type 0
Like (accepted t) (states byte) = Unit
Like (accepted t) not_stated = Unit
Like (accepted t) (refuses r line) = ⊥
Like (refused r line) a = a ≡ refuses r line

-- refused with 17
abbrev pub Outside : Verdict → Type 0
Outside v = (address : ℕ) × (line : ℕ) × (v ≡ refused (outside_window address) line)

-- so they do in every room that is not refused itself, except that the load alone may be refused with 17
abbrev pub AskedOrOutside : Type 1
AskedOrOutside =
    (S : Type 0) (src : Source S) (room : Room) (text page marks : List ℕ) (address : ℕ) → room.fault ≡ none
    → let v = (load src room text page marks).answer in
    Like v (ask src address text) ⊎ Outside v

-- ---- demand 3, first half

-- two texts that are the same through the LF of the line at which the first is decided: what follows changes no answer
abbrev pub AskedNothingAfterTheLF : Type 1
AskedNothingAfterTheLF =
    (S : Type 0) (src : Source S) (text₁ text₂ : List ℕ) (line : ℕ) (v : Verdict) → decision anywhere nothing_yet (steps_of src text₁) ≡ some (by line v)
    → (head : List ℕ) → through line text₁ ≡ some head → through line text₂ ≡ some head
    → (address : ℕ) → ask src address text₁ ≡ ask src address text₂
