-- A window table: document 02, wish 12. Each window has an owner, a first address, a length and a place in a shared pool. What an owner has of the pool
-- is a site. Each claim is proved in `proofs/Table.antt`.
-- Assumes nothing.
use Rattle.std.specs.Prelude.{◌≡◌, ◌≢◌, ◌↔◌, ◌⊎◌, ℕ, ◌+◌, ◌-◌, ◌^◌, ◌≤◌, ◌<◌, Bool, true, false, not, ◌&&◌, ◌||◌, eqb, leb, ltb, length}
use Rattle.std.proofs.Math.Option.{Option, none, some}
use mathlib.Core.List.{List, [], ◌∷◌, ◌++◌, Memᴰ}
use Rattle.std.specs.Prelude.{if◌then◌else◌}
use Rattle.record.specs.Refusals.{bad_table}
use Rattle.marks.specs.Marks.{row_length}
use Rattle.steps.specs.Sites.{Room}
use Rattle.steps.specs.Owners.{Apart}
use Rattle.window.specs.declared.Row.{Row}
use Rattle.window.specs.Window.{within, unfit, one_window}

-- an owner, a first address, a length and a place
abbrev pub row : (owner first size place : ℕ) → Row
row owner first size place = record { owner = owner; first = first; size = size; place = place }

abbrev pub nobody : Row
nobody = row 0 0 0 0

-- a table of one window, the first owner's, that holds a whole page
abbrev pub alone : (first size : ℕ) → List Row
alone first size = row 1 first size 0 ∷ []

-- ---- what an owner has

-- the window is the owner's, and place i of the pool is one of its places
abbrev pub has : (owner i : ℕ) → Row → Bool
has owner i r = eqb r.owner owner && within r.place r.size i

-- the window is the owner's, and holds the address
abbrev pub takes : (owner address : ℕ) → Row → Bool
takes owner address r = eqb r.owner owner && within r.first r.size address

-- the address that a place of the pool shows the owner
unfoldable pub site_of : (owner : ℕ) → List Row → ℕ → Option ℕ
unfolding within
site_of owner [] i = none
site_of owner (r ∷ rows) i = if has owner i r then some (r.first + (i - r.place)) else site_of owner rows i

-- the addresses that lie in one of the owner's windows
unfoldable pub inside_of : (owner : ℕ) → List Row → (address : ℕ) → Bool
unfolding within
inside_of owner [] address = false
inside_of owner (r ∷ rows) address = takes owner address r || inside_of owner rows address

-- ---- the limits

-- the most windows, and the most bytes of a pool
abbrev pub MOST_WINDOWS : ℕ
MOST_WINDOWS = 16

abbrev pub MOST_PLACES : ℕ
MOST_PLACES = 65536

-- a number lies in both stretches. An empty stretch has none
abbrev pub overlap : (start size start' size' : ℕ) → Bool
overlap start size start' size' = ltb 0 size && (ltb 0 size' && (ltb start (start' + size') && ltb start' (start + size)))

-- two windows share a place of the pool, or an address of one owner
abbrev pub clash : Row → Row → Bool
clash r r' = overlap r.place r.size r'.place r'.size || (eqb r.owner r'.owner && overlap r.first r.size r'.first r'.size)

abbrev pub clashes : Row → List Row → Bool
clashes r [] = false
clashes r (r' ∷ rows) = clash r r' || clashes r rows

-- any two of them, neighbours or not
abbrev pub any_clash : List Row → Bool
any_clash [] = false
any_clash (r ∷ rows) = clashes r rows || any_clash rows

abbrev pub is_owner : ℕ → Bool
is_owner owner = eqb owner 1 || eqb owner 2

-- a window has an owner, and ends neither beyond 2^32 nor beyond the pool
abbrev pub good_row : (pool : ℕ) → Row → Bool
good_row pool r = is_owner r.owner && (leb (r.first + r.size) (2 ^ 32) && leb (r.place + r.size) pool)

abbrev pub good_rows : (pool : ℕ) → List Row → Bool
good_rows pool [] = true
good_rows pool (r ∷ rows) = good_row pool r && good_rows pool rows

-- no window of the table breaks a limit, and no two of them clash
abbrev pub Sound : (pool : ℕ) → List Row → Type 0
Sound pool rows = (good_rows pool rows ≡ true) × (any_clash rows ≡ false)

-- table, pool, marks and call keep within the limits
unfoldable pub fits : (owner pool marks : ℕ) → List Row → Bool
unfolding row_length
fits owner pool marks rows =
    is_owner owner && (leb (length rows) MOST_WINDOWS && (leb pool MOST_PLACES && (eqb marks (row_length pool) && (good_rows pool rows && not (any_clash rows)))))

-- an owner's room, with 23 for a table that is refused
unfoldable pub owned : (owner pool marks : ℕ) → List Row → Room
unfolding fits inside_of site_of
owned owner pool marks rows =
    record { fault = if fits owner pool marks rows then none else some bad_table; inside = inside_of owner rows; site = site_of owner rows }

-- ---- when a table is refused, said without computing

abbrev pub IsOwner : ℕ → Type 0
IsOwner owner = (owner ≡ 1) ⊎ (owner ≡ 2)

-- a number of the stretch
abbrev pub LiesIn : (start size x : ℕ) → Type 0
LiesIn start size x = (start ≤ x) × (x < start + size)

-- two windows of a table, one somewhere after the other
pub record TwoOf (rows : List Row) (r r' : Row) : Type 0 where
  pub before : List Row
  pub between : List Row
  pub after : List Row
  pub whole : rows ≡ before ++ (r ∷ (between ++ (r' ∷ after)))

-- what document 02 lists
pub data BadTable (owner pool marks : ℕ) (rows : List Row) : Type 0 where
  too_many : MOST_WINDOWS < length rows → BadTable owner pool marks rows
  call_of_nobody : ¬ IsOwner owner → BadTable owner pool marks rows
  window_of_nobody : (r : Row) → Memᴰ r rows → ¬ IsOwner r.owner → BadTable owner pool marks rows
  pool_too_long : MOST_PLACES < pool → BadTable owner pool marks rows
  marks_differ : marks ≢ row_length pool → BadTable owner pool marks rows
  beyond_addresses : (r : Row) → Memᴰ r rows → 2 ^ 32 < r.first + r.size → BadTable owner pool marks rows
  beyond_pool : (r : Row) → Memᴰ r rows → pool < r.place + r.size → BadTable owner pool marks rows
  address_shared : (r r' : Row) → TwoOf rows r r' → r.owner ≡ r'.owner → (x : ℕ) → LiesIn r.first r.size x → LiesIn r'.first r'.size x → BadTable owner pool marks rows
  place_shared : (r r' : Row) → TwoOf rows r r' → (x : ℕ) → LiesIn r.place r.size x → LiesIn r'.place r'.size x → BadTable owner pool marks rows

-- ---- what is claimed

-- 23 exactly where the list above says so
abbrev pub RefusedExactly : Type 0
RefusedExactly = (owner pool marks : ℕ) (rows : List Row) → (fits owner pool marks rows ≡ false) ↔ BadTable owner pool marks rows

-- two stretches overlap exactly when a number lies in both
abbrev pub OverlapIsShared : Type 0
OverlapIsShared =
    (start size start' size' : ℕ)
    → (overlap start size start' size' ≡ true) ↔ ((x : ℕ) × (within start size x ≡ true) × (within start' size' x ≡ true))

-- what a place shows, said without computing: a window of the owner's has it, at this distance from its first place, and shows the address at that distance
-- from its first one
pub record ShowsIn (owner : ℕ) (rows : List Row) (i address : ℕ) : Type 0 where
  pub window : Row
  pub in_table : Memᴰ window rows
  pub owned_by : window.owner ≡ owner
  pub distance : ℕ
  pub inside : distance < window.size
  pub at_place : i ≡ window.place + distance
  pub at_address : address ≡ window.first + distance

-- so it is, where no windows share a place
abbrev pub ShownByWindows : Type 0
ShownByWindows = (owner : ℕ) (rows : List Row) → any_clash rows ≡ false → (i address : ℕ) → (site_of owner rows i ≡ some address) ↔ ShowsIn owner rows i address

-- an address is inside exactly if it lies in a window of the owner's
abbrev pub InsideByWindows : Type 0
InsideByWindows =
    (owner : ℕ) (rows : List Row) (address : ℕ)
    → (inside_of owner rows address ≡ true) ↔ ((r : Row) × Memᴰ r rows × (r.owner ≡ owner) × LiesIn r.first r.size address)

-- two owners share no place
abbrev pub OwnersApart : Type 0
OwnersApart = (owner owner' : ℕ) (rows : List Row) → owner ≢ owner' → any_clash rows ≡ false → Apart (site_of owner rows) (site_of owner' rows)

-- what a place shows is inside
abbrev pub ShownIsInside : Type 0
ShownIsInside = (owner : ℕ) (rows : List Row) (i address : ℕ) → site_of owner rows i ≡ some address → inside_of owner rows address ≡ true

-- what is inside is shown at a place of the pool: no accepted byte is lost
abbrev pub InsideIsShown : Type 0
InsideIsShown =
    (owner pool : ℕ) (rows : List Row) → any_clash rows ≡ false → good_rows pool rows ≡ true
    → (address : ℕ) → inside_of owner rows address ≡ true → (i : ℕ) × (i < pool) × (site_of owner rows i ≡ some address)

-- and at no other
abbrev pub ShownOnce : Type 0
ShownOnce =
    (owner : ℕ) (rows : List Row) → any_clash rows ≡ false
    → (address i j : ℕ) → site_of owner rows i ≡ some address → site_of owner rows j ≡ some address → i ≡ j

-- a table with one window, which is the owner's and fills the pool, is that window
abbrev pub OneWindowTable : Type 0
OneWindowTable =
    (owner first pool marks : ℕ) → is_owner owner ≡ true → unfit first pool marks ≡ false
    → owned owner pool marks (record { owner = owner; first = first; size = pool; place = 0 } ∷ []) ≡ one_window first pool marks

-- ---- examples

pub record Examples : Type 0 where
  -- no windows at all
  pub empty : fits 1 0 0 [] ≡ true
  -- an empty window overlaps nothing, but must not lie beyond the pool
  pub empty_inside : fits 1 8 1 (row 1 0 8 0 ∷ row 1 4 0 4 ∷ []) ≡ true
  pub empty_at_end : fits 1 8 1 (row 1 0 0 8 ∷ []) ≡ true
  pub empty_beyond : fits 1 8 1 (row 1 0 0 9 ∷ []) ≡ false
  -- up to 2^32, and one more
  pub last_address : fits 1 4 1 (row 1 0xFFFFFFFC 4 0 ∷ []) ≡ true
  pub beyond_last : fits 1 4 1 (row 1 0xFFFFFFFD 4 0 ∷ []) ≡ false
  -- the same addresses for two owners, and windows that touch
  pub two_owners : fits 1 8 1 (row 1 0 4 0 ∷ row 2 0 4 4 ∷ []) ≡ true
  pub touching : fits 1 8 1 (row 1 0 4 0 ∷ row 1 4 4 4 ∷ []) ≡ true
  -- a shared address, a shared place, and two windows that are not neighbours
  pub shared_address : fits 1 8 1 (row 1 0 4 0 ∷ row 1 3 4 4 ∷ []) ≡ false
  pub shared_place : fits 1 8 1 (row 1 0 4 0 ∷ row 2 0 4 3 ∷ []) ≡ false
  pub not_neighbours : fits 1 12 2 (row 1 0 4 0 ∷ row 2 0 4 8 ∷ row 1 3 4 4 ∷ []) ≡ false
  -- an owner that is neither 1 nor 2, in the call and in a window of the other owner
  pub owner_of_call : fits 3 0 0 [] ≡ false
  pub owner_of_window : fits 1 8 1 (row 1 0 4 0 ∷ row 0 0 4 4 ∷ []) ≡ false
  -- sums are of natural numbers
  pub no_wrap : fits 1 8 1 (row 1 0 (2 ^ 63) (2 ^ 63) ∷ []) ≡ false
  -- a record may go from one window into the next
  pub shown_one : site_of 1 (row 1 0x100 4 0 ∷ row 1 0x104 2 8 ∷ []) 3 ≡ some 0x103
  pub shown_next : site_of 1 (row 1 0x100 4 0 ∷ row 1 0x104 2 8 ∷ []) 8 ≡ some 0x104
  pub shown_none : site_of 1 (row 1 0x100 4 0 ∷ row 1 0x104 2 8 ∷ []) 4 ≡ none
