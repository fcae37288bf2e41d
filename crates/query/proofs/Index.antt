-- Which byte of a data record lies at an address: Intel's two sums, solved for i, and what a record states by that.
-- Assumes nothing.
use Rattle.std.proofs.Common.{◌≡◌, ℕ, ◌+◌, ◌%◌, ◌^◌, ◌<◌, ◌≤◌, ◌↔◌, List, length, get_or, take, drop, sym, refl, ap, ◌∙◌, zero-add, arith, length-drop, length-take-le, get_or-drop, get_or-take}
use mathlib.Core.Option.{Option, none, some}
use Rattle.record.specs.declared.Record.TheVariants.{Data}
use Rattle.steps.specs.Runs.{spread}
use Rattle.steps.specs.Sites.{last_at}
use Rattle.steps.proofs.Puts.{InRecord, in_record}
use Rattle.intel.specs.Placing.{Base, from_segment, from_linear, byte_address}
use Rattle.intel.specs.Records.{LiesIn}
use Rattle.query.specs.declared.Aim.{Aim}
use Rattle.query.specs.declared.Aim.TheVariants.{Segment, Linear}
use Rattle.query.specs.Aliases.{Found}
use Rattle.query.specs.Helpers.{Aims, IndexOf, Noted}
use Rattle.std.specs.Prelude.{None, Some}

-- ---- the two sums

-- under a linear base: i is the distance less the offset, modulo 2^32
solved_linear : (base offset distance address r i : ℕ) → distance < 2 ^ 32 → r < 2 ^ 32 → i < 65536
    → (distance + base) % 2 ^ 32 ≡ address → (r + offset) % 2 ^ 32 ≡ distance → ((base + offset + i) % 2 ^ 32 ≡ address) ↔ (i ≡ r)
solved_linear base offset distance address r i d b h e q = (λ s. omega arith, λ s. omega arith)

-- in a segment that reaches the address: that, modulo 65,536
solved_segment : (base offset distance address r i : ℕ) → base + 65536 ≤ 2 ^ 32 → distance < 65536 → r < 65536 → i < 65536
    → (distance + base) % 2 ^ 32 ≡ address → (r + offset) % 65536 ≡ distance → (base + (offset + i) % 65536 ≡ address) ↔ (i ≡ r)
solved_segment base offset distance address r i l d b h e q = (λ s. omega arith, λ s. omega arith)

-- in one that does not: no byte lies there
solved_apart : (base offset distance address i : ℕ) → base + 65536 ≤ 2 ^ 32 → 65536 ≤ distance → distance < 2 ^ 32 → i < 65536
    → (distance + base) % 2 ^ 32 ≡ address → base + (offset + i) % 65536 ≡ address → ⊥
solved_apart base offset distance address i l d b h e s = omega arith

-- an index that is the only one, as the code names it
named_one : {P : Type 0} (i r : ℕ) → P ↔ (i ≡ r) → P ↔ (◌≡◌ {A = Found} (Some r) (Some i))
named_one i r e = (λ p. ap Some (sym (e.0 p)), λ q. e.1 (let s : r ≡ i = cc in sym s))

named_none : {P : Type 0} (i : ℕ) → (P → ⊥) → P ↔ (◌≡◌ {A = Found} None (Some i))
named_none i e = (λ p. absurd (e p), λ q. cc)

module _ (distance offset : ℕ) (fits : distance < 2 ^ 32) where
  pub index_linear : (r : ℕ) → r < 2 ^ 32 → (r + offset) % 2 ^ 32 ≡ distance → IndexOf (Linear distance) offset (Some r)
  unfolding byte_address
  index_linear r b e = record { solves = go }
    where
      go : (base : Base) (address : ℕ) → Aims base address (Linear distance) → (i : ℕ) → i < 65536 → (byte_address base offset i ≡ address) ↔ (◌≡◌ {A = Found} (Some r) (Some i))
      go (from_linear base) address s i h = named_one i r (solved_linear base offset distance address r i fits b h s e)
      go (from_segment base) address s i h = absurd s

  pub index_segment : (r : ℕ) → distance < 65536 → r < 65536 → (r + offset) % 65536 ≡ distance → IndexOf (Segment distance) offset (Some r)
  unfolding byte_address
  index_segment r d b e = record { solves = go }
    where
      go : (base : Base) (address : ℕ) → Aims base address (Segment distance) → (i : ℕ) → i < 65536 → (byte_address base offset i ≡ address) ↔ (◌≡◌ {A = Found} (Some r) (Some i))
      go (from_linear base) address s i h = absurd s
      go (from_segment base) address (s, k) i h = named_one i r (solved_segment base offset distance address r i k d b h s e)

  pub index_apart : 65536 ≤ distance → IndexOf (Segment distance) offset None
  unfolding byte_address
  index_apart d = record { solves = go }
    where
      go : (base : Base) (address : ℕ) → Aims base address (Segment distance) → (i : ℕ) → i < 65536 → (byte_address base offset i ≡ address) ↔ (◌≡◌ {A = Found} None (Some i))
      go (from_linear base) address s i h = absurd s
      go (from_segment base) address (s, k) i h = named_none i (solved_apart base offset distance address i k d fits h s)

-- ---- what a record states

-- where one byte alone can lie at the address, it is the last there; and where none can, none is
module _ (at : ℕ → ℕ) (a : ℕ) (bytes : List ℕ) where
  last_there : (r : ℕ) → ((i : ℕ) → i < length bytes → (at i ≡ a) ↔ (i ≡ r)) → r < length bytes → last_at a (spread at 0 bytes) ≡ some (get_or bytes r 0)
  last_there r solved h = go (last_at a (spread at 0 bytes)) (in_record at a 0 bytes)
    where
      go : (o : Option ℕ) → InRecord at a 0 bytes o → o ≡ some (get_or bytes r 0)
      go none f = absurd (f r h (rw (zero-add r) ((solved r h).1 refl)))
      go (some b) (j, l, q, g, later) =
          let same : j ≡ r = (solved j l).0 (rw (zero-add j) at q) in ap some (sym g ∙ ap (λ (i : ℕ). get_or bytes i 0) same)

  last_nowhere : ((i : ℕ) → i < length bytes → at i ≡ a → ⊥) → last_at a (spread at 0 bytes) ≡ none
  last_nowhere apart = go (last_at a (spread at 0 bytes)) (in_record at a 0 bytes)
    where
      go : (o : Option ℕ) → InRecord at a 0 bytes o → o ≡ none
      go none f = refl
      go (some b) (j, l, q, g, later) = absurd (apart j l (rw (zero-add j) at q))

module _ (pool : List ℕ) (offset at len : ℕ) (aim : Aim) (before : Found) (lies : LiesIn (Data offset at len) pool) where
  long : length (take len (drop at pool)) ≡ len
  long = length-take-le len (drop at pool) (omega (arith, lies.0, length-drop at pool))

  pub noted_there : (r : ℕ) → IndexOf aim offset (Some r) → (byte : ℕ) → r < len → byte ≡ get_or pool (at + r) 0 → Noted pool offset at len aim before (Some byte)
  noted_there r index byte h e =
      record {
        byte_is = λ base address aims.
            rw (last_there (byte_address base offset) address (take len (drop at pool)) r (only base address aims) (omega (arith, long)))
            (ap some (e ∙ sym (held h)));
      }
    where
      only : (base : Base) (address : ℕ) → Aims base address aim → (i : ℕ) → i < length (take len (drop at pool)) → (byte_address base offset i ≡ address) ↔ (i ≡ r)
      only base address aims i h =
          let s = index.solves base address aims i (omega (arith, lies.1, long)) in
          (λ p. let q : ◌≡◌ {A = Found} (Some r) (Some i) = s.0 p in cc, λ p. s.1 (ap Some (sym p)))

      held : r < len → get_or (take len (drop at pool)) r 0 ≡ get_or pool (at + r) 0
      held h = rw (get_or-take, get_or-drop)

  pub noted_elsewhere : (r : Found) → IndexOf aim offset r → ((i : ℕ) → i < len → r ≡ Some i → ⊥) → Noted pool offset at len aim before before
  noted_elsewhere r index h =
      record {
        byte_is = λ base address aims.
            rw (last_nowhere (byte_address base offset) address (take len (drop at pool))
            (λ i l p. h i (omega (arith, long)) ((index.solves base address aims i (omega (arith, lies.1, long))).0 p)));
      }
