-- Two owners of one page: document 02's twelfth request. Their sites share no place, so no load of one touches a place of the other. Whatever loads
-- both make, in whatever order, each has what its own loads alone leave it. Each claim is proved in `proofs/Owners.antt`.
-- Assumes nothing.
use Rattle.std.specs.Prelude.{◌≡◌, ◌≢◌, ◌⊎◌, ℕ, List, [], ◌∷◌, eqb, length, get_or}
use Rattle.std.proofs.Math.Option.{Option, none}
use Rattle.std.specs.Prelude.{if◌then◌else◌}
use Rattle.steps.specs.Steps.{Step, Verdict}
use Rattle.steps.specs.Sites.{Shown, Room, load_steps}

-- no place shows an address to both
abbrev pub Apart : (mine others : ℕ → Option ℕ) → Type 0
Apart mine others = (i : ℕ) → (mine i ≡ none) ⊎ (others i ≡ none)

-- page and marks as they stand
pub record Buffers : Type 0 where
  pub page : List ℕ
  pub marks : List ℕ

-- what a load of steps leaves of them
unfoldable pub after : Room → List Step → Buffers → Buffers
unfolding load_steps
after room steps b = record { page = (load_steps room steps b.page b.marks).page; marks = (load_steps room steps b.page b.marks).marks }

-- and its answer
unfoldable pub answer_of : Room → List Step → Buffers → Verdict
unfolding load_steps
answer_of room steps b = (load_steps room steps b.page b.marks).answer

-- two pages with marks hold the same at a site's places
pub record SameAt (site : ℕ → Option ℕ) (b₁ b₂ : Buffers) : Type 0 where
  pub bytes : (i : ℕ) → Shown site i → get_or b₁.page i 0 ≡ get_or b₂.page i 0
  pub marks : (i : ℕ) → Shown site i → get_or b₁.marks i 0 ≡ get_or b₂.marks i 0

-- a load through one room, accepted or refused, changes no byte and no mark at places that the room does not show
abbrev pub LeavesTheOthers : Type 0
LeavesTheOthers = (room : Room) (others : ℕ → Option ℕ) → Apart room.site others → (steps : List Step) (b : Buffers) → SameAt others (after room steps b) b

-- its answer depends on no byte and no mark
abbrev pub AnswersAlone : Type 0
AnswersAlone = (room : Room) (steps : List Step) (b₁ b₂ : Buffers) → answer_of room steps b₁ ≡ answer_of room steps b₂

-- ---- a row of loads, each by an owner

pub data Event : Type 0 where
  load_by : (owner : ℕ) → List Step → Event

-- each owner has a room. What a row leaves
unfoldable pub row_after : (rooms : ℕ → Room) → List Event → Buffers → Buffers
unfolding after
row_after rooms [] b = b
row_after rooms (load_by owner steps ∷ row) b = row_after rooms row (after (rooms owner) steps b)

-- the answers to one owner's loads
unfoldable pub answers_to : (me : ℕ) (rooms : ℕ → Room) → List Event → Buffers → List Verdict
unfolding after answer_of
answers_to me rooms [] b = []
answers_to me rooms (load_by owner steps ∷ row) b =
    let later = answers_to me rooms row (after (rooms owner) steps b) in if eqb owner me then answer_of (rooms owner) steps b ∷ later else later

-- its loads alone
unfoldable pub loads_of : (me : ℕ) → List Event → List Event
loads_of me [] = []
loads_of me (load_by owner steps ∷ row) = if eqb owner me then load_by owner steps ∷ loads_of me row else loads_of me row

-- Two rows have the same loads of this owner, in the same order. The others' loads may differ, and may stand anywhere. The pages hold the same at this
-- owner's places. Then this owner gets the same answers, and its places hold the same bytes and marks after both rows.
abbrev pub Isolation : Type 0
Isolation =
    (me : ℕ) (rooms : ℕ → Room) → ((owner : ℕ) → owner ≢ me → Apart (rooms owner).site (rooms me).site)
    → (row₁ row₂ : List Event) → loads_of me row₁ ≡ loads_of me row₂
    → (b₁ b₂ : Buffers) → length b₁.page ≡ length b₂.page → length b₁.marks ≡ length b₂.marks → SameAt (rooms me).site b₁ b₂
    → (answers_to me rooms row₁ b₁ ≡ answers_to me rooms row₂ b₂) × SameAt (rooms me).site (row_after rooms row₁ b₁) (row_after rooms row₂ b₂)
