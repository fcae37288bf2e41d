-- No second answer meets a contract of the listener. Proved in `proofs/Answers.antt`.
-- Assumes nothing.
use Rattle.std.specs.Prelude.{ℕ, ◌≡◌, Bool, List, take}
use Rattle.marks.specs.Claims.{Bytes}
use Rattle.intake.specs.declared.Kind.{Kind}
use Rattle.listen.specs.declared.Listener.{Listener}
use Rattle.listen.specs.declared.Listener.TheVariants.{Front, Within, Ready}
use Rattle.listen.specs.declared.Said.{Said}
use Rattle.listen.specs.declared.Said.TheVariants.{WantsMore, Decided, Passed, Quiet, CarryTooSmall}
use Rattle.listen.specs.declared.Step.{Step}
use Rattle.listen.specs.Aliases.{Committed}
use Rattle.listen.specs.Listener.{Begins, Hears, Pauses, Commits}

abbrev pub BeginUnique : Type 0
BeginUnique = (kind : Kind) (known : Bool) (r r' : Listener) → Begins kind known r → Begins kind known r' → r ≡ r'

-- of the carry those bytes are fixed that a load counts as used; of a call that decides nothing is claimed here, and of any other all of it is fixed
abbrev pub SameCarry : Said → Listener → (carry carry' : List ℕ) → Type 0
SameCarry WantsMore (Front kind cr) carry carry' = carry ≡ carry'
SameCarry WantsMore (Within s) carry carry' = take s.used carry ≡ take s.used carry'
SameCarry WantsMore (Ready kind) carry carry' = carry ≡ carry'
SameCarry (Decided answer) l carry carry' = Unit
SameCarry Passed l carry carry' = Unit
SameCarry Quiet l carry carry' = carry ≡ carry'
SameCarry CarryTooSmall l carry carry' = carry ≡ carry'

-- what is said, where listening stands then, the staging page and its marks
abbrev pub OneStep : (r r' : Step) (carry carry' stage stage' stated stated' : List ℕ) → Type 0
OneStep r r' carry carry' stage stage' stated stated' = (r ≡ r') × (stage ≡ stage') × (stated ≡ stated') × SameCarry r.said r.listener carry carry'

-- with marks that are bytes
abbrev pub FeedUnique : Type 0
FeedUnique =
    (l : Listener) (chunk carry : List ℕ) (first : ℕ) (stage stated : List ℕ) (r r' : Step) (c c' p p' m m' : List ℕ) → Bytes stated
    → Hears l chunk carry first stage stated r c p m → Hears l chunk carry first stage stated r' c' p' m' → OneStep r r' c c' p p' m m'

abbrev pub PauseUnique : Type 0
PauseUnique =
    (l : Listener) (carry : List ℕ) (first : ℕ) (stage stated : List ℕ) (r r' : Step) (c c' p p' m m' : List ℕ) → Bytes stated
    → Pauses l carry first stage stated r c p m → Pauses l carry first stage stated r' c' p' m' → OneStep r r' c c' p p' m m'

abbrev pub CommitUnique : Type 0
CommitUnique =
    (l : Listener) (stage stated page marks : List ℕ) (r r' : Committed) (p p' m m' : List ℕ)
    → Commits l stage stated page marks r p m → Commits l stage stated page marks r' p' m' → (r ≡ r') × (p ≡ p') × (m ≡ m')
