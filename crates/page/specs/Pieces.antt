-- Which places of a page each data record holds: every run of marked places, cut after 16 places and at each multiple of 65,536.
-- Flags are the marks of the places, a number for each.
-- Assumes nothing.
use Rattle.std.specs.Prelude.{ℕ, suc, ◌+◌, ◌%◌, Bool, not, ◌||◌, List, [], ◌∷◌, eqb}
use Rattle.std.proofs.Math.Option.{Option, none, some}
use Rattle.std.specs.Prelude.{if◌then◌else◌}

-- the places of one data record: the first, counted from the window's first place, and how many
pub record Piece : Type 0 where
  pub place : ℕ
  pub size : ℕ

abbrev pub is_marked : (mark : ℕ) → Bool
is_marked mark = eqb mark 1

-- does a piece end before the next place? Where that has no mark, after 16 places, and at each multiple of 65,536
unfoldable pub ends_before : Piece → (mark address : ℕ) → Bool
ends_before p mark address = not (is_marked mark) || (eqb p.size 16 || eqb (address % 65536) 0)

abbrev pub one_longer : Piece → Piece
one_longer p = record { place = p.place; size = suc p.size }

-- the piece that starts at a place, if it is marked
unfoldable pub starting : (mark place : ℕ) → Option Piece
starting mark place = if is_marked mark then some (record { place = place; size = 1 }) else none

-- the pieces of the flags from a place on, with the one that is begun there, if one is
unfoldable pub pieces : (first place : ℕ) (begun : Option Piece) (flags : List ℕ) → List Piece
unfolding ends_before starting
pieces first place none [] = []
pieces first place (some p) [] = p ∷ []
pieces first place none (m ∷ flags) = pieces first (suc place) (starting m place) flags
pieces first place (some p) (m ∷ flags) =
    if ends_before p m (first + place)
    then p ∷ pieces first (suc place) (starting m place) flags
    else pieces first (suc place) (some (one_longer p)) flags
