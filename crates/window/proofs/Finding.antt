-- The windows of an owner, looked at one after the other: the addresses that they hold.
-- Assumes nothing.
use mathlib.Core.Path.{◌≡◌, sym, ap, ◌∙◌}
use Prim.Native.Nat.{ℕ, zero, suc, ◌+◌, ◌-◌, ◌≤◌, ◌<◌}
use native.Mathlib.Numerals.{add-one}
use native.Mathlib.Omega.{arith}
use mathlib.Core.Bool.{true, false}
use mathlib.Core.List.{List, [], ◌∷◌}
use lib.Dec.{eqb}
use lib.ListN.{length, get_or, drop, drop_of_length-le}
use lib.Seq.{drop-cons}
use borrow.Author.Tests.{eq-eqb, eqb-true}
use Rattle.digits.proofs.Tests.{both, or_true}
use Rattle.marks.proofs.Below.{split}
use Rattle.window.specs.declared.Row.{Row}
use Rattle.window.specs.Window.{within}
use Rattle.window.specs.Table.{nobody, takes, inside_of}
use Rattle.window.specs.Promises.{RoomAt}
use Rattle.window.proofs.Tests.{within_true, true_within}

-- a window of the table that takes an address makes it one of the owner's
pub taken : (owner a : ℕ) (rows : List Row) (i : ℕ) → i < length rows → takes owner a (get_or rows i nobody) ≡ true → inside_of owner rows a ≡ true
unfolding inside_of
taken owner a [] i h e = absurd (omega arith)
taken owner a (r ∷ rows) zero h e = rw e
taken owner a (r ∷ rows) (suc i) h e = rw (taken owner a rows i (omega arith) e) (or_true (takes owner a r))

module _ (owner a : ℕ) (rows : List Row) where
  -- the windows from window i on decide
  abbrev pub Decided : ℕ → Type 0
  Decided i = inside_of owner (drop i rows) a ≡ inside_of owner rows a

  pub passed_on : (i : ℕ) → i < length rows → (r : Row) → r ≡ get_or rows i nobody → takes owner a r ≡ false → Decided i → Decided (i + 1)
  unfolding inside_of
  passed_on i h r is e d =
      let f : takes owner a (get_or rows i nobody) ≡ false = rw is at e in
      rw (add-one i) (sym (ap (λ (l : List Row). inside_of owner l a) (drop-cons rows i nobody h) ∙ rw f) ∙ d)

  pub none_left : (i : ℕ) → length rows ≤ i → Decided i → inside_of owner rows a ≡ false
  unfolding inside_of
  none_left i h d = sym d ∙ ap (λ (l : List Row). inside_of owner l a) (drop_of_length-le rows h)

-- a window of the owner takes what lies in it
module _ (owner a : ℕ) (r : Row) where
  pub held : r.owner ≡ owner → r.first ≤ a → a < r.first + r.size → takes owner a r ≡ true
  held o l u = rw (eq-eqb r.owner owner o, true_within r.first r.size a l u)

  pub held_so : takes owner a r ≡ true → (r.owner ≡ owner) × (r.first ≤ a) × (a < r.first + r.size)
  held_so e =
      let (o, w) = both (eqb r.owner owner) (within r.first r.size a) e in
      let (l, u) = within_true r.first r.size a w in
      (eqb-true r.owner owner o, l, u)

-- what is found
module _ (owner : ℕ) (rows : List Row) (address : ℕ) where
  pub room_found : (i : ℕ) → i < length rows → (r : Row) → r ≡ get_or rows i nobody → takes owner address r ≡ true → RoomAt owner rows address (r.size - (address - r.first))
  room_found i h r is e =
      let (o, l, u) = held_so owner address r e in
      record {
        inside = λ k v. taken owner (address + k) rows i h (rw is at (held owner (address + k) r o (omega arith) (omega arith)));
        none_there = λ z. absurd (omega arith);
      }

  pub room_none : (i : ℕ) → length rows ≤ i → Decided owner address rows i → RoomAt owner rows address 0
  room_none i h d = record { inside = λ k u. absurd (omega arith); none_there = λ z. none_left owner address rows i h d }

-- ---- a run, from window to window

-- so many addresses from this one on are inside
abbrev pub AllInside : (owner : ℕ) (rows : List Row) (address n : ℕ) → Type 0
AllInside owner rows address n = (k : ℕ) → k < n → inside_of owner rows (address + k) ≡ true

pub all_more : (owner : ℕ) (rows : List Row) (address i room : ℕ) → AllInside owner rows address i → RoomAt owner rows (address + i) room → AllInside owner rows address (i + room)
all_more owner rows address i room a r k h =
    split i k (λ l. let e : address + i + (k - i) ≡ address + k = omega arith in rw e at (r.inside (k - i) (omega arith))) (λ u. a k u)
