-- The chunk's bytes as they go into the carry: what is held, with the rest of the chunk, makes up the whole.
-- Assumes nothing.
use Rattle.std.proofs.Common.{◌≡◌, ℕ, suc, ◌+◌, ◌<◌, ◌≤◌, Bool, List, ◌∷◌, length, get_or, drop, sym, refl, ap, ◌∙◌, ap₂, add-one, arith, drop-cons, ne_eqb}
use mathlib.Core.Option.{Option}
use Rattle.reader.specs.Lines.{LF}
use Rattle.chunks.specs.Begun.{Kept, Begun, add, seek}
use Rattle.chunks.specs.Next.{kept_in}
use Rattle.chunks.specs.Helpers.{held, Grown, UpToLF}
use Rattle.chunks.proofs.Carry.{same, onward}

pub record Passing (chunk : List ℕ) (position : ℕ) (carry₀ : List ℕ) (used : ℕ) (b₀ : Begun) (i n k : ℕ) (w : Bool) (carry : List ℕ) : Type 0 where
  pub goes_on : (start : Option (List ℕ)) (empties : ℕ) → seek start empties b₀ (drop position chunk) ≡ seek start empties (held carry n k w) (drop i chunk)
  pub from : position ≤ i
  pub inside : i ≤ length chunk
  pub grown : Grown carry₀ used (kept_in carry n k) n k carry
  pub size : length carry ≡ length carry₀

pub pass_first : (chunk : List ℕ) (position : ℕ) (carry : List ℕ) (used skipped : ℕ) (cr : Bool) → position ≤ length chunk → used ≤ 522
    → Passing chunk position carry used (held carry used skipped cr) position used skipped cr carry
pass_first chunk position carry used skipped cr h u = record { goes_on = λ start empties. refl; from = omega arith; inside = h; grown = same carry used skipped u; size = refl }

-- a byte that is no LF
pub step_over : (start : Option (List ℕ)) (empties : ℕ) (b : Begun) (c : ℕ) (text : List ℕ) → (c ≡ LF → ⊥) → seek start empties b (c ∷ text) ≡ seek start empties (add b c) text
unfolding seek
step_over start empties b c text h = rw (ne_eqb c LF h)

module _ (chunk : List ℕ) (position : ℕ) (carry₀ : List ℕ) (used : ℕ) (b₀ : Begun) (i n k : ℕ) (w : Bool) (carry : List ℕ) (p : Passing chunk position carry₀ used b₀ i n k w carry) where
  pub pass_more : (n' k' : ℕ) (w' : Bool) (carry' : List ℕ) → i < length chunk → (get_or chunk i 0 ≡ LF → ⊥)
      → Grown carry n (add (held carry n k w) (get_or chunk i 0)).kept n' k' carry' → w' ≡ (add (held carry n k w) (get_or chunk i 0)).cr → length carry' ≡ length carry
      → Passing chunk position carry₀ used b₀ (i + 1) n' k' w' carry'
  pass_more n' k' w' carry' h other g e l =
      let b : Begun = add (held carry n k w) (get_or chunk i 0) in
      let is : b ≡ held carry' n' k' w' = ap₂ (λ (k : Kept) (x : Bool). record { kept = k; cr = x }) (sym g.holds) (sym e) in
      record {
        goes_on = λ start empties.
            p.goes_on start empties
            ∙ ap (seek start empties (held carry n k w)) (drop-cons chunk i 0 h)
            ∙ step_over start empties (held carry n k w) (get_or chunk i 0) (drop (suc i) chunk) other
            ∙ ap₂ (λ (x : Begun) (k : ℕ). seek start empties x (drop k chunk)) is (sym (add-one i));
        from = omega (arith, p.from);
        inside = omega arith;
        grown = onward carry₀ used (kept_in carry n k) n k carry (kept_in carry' n' k') n' k' carry' p.grown
            (record { holds = refl; within = g.within; more = g.more; earlier = g.earlier });
        size = l ∙ p.size;
      }

  pub pass_last : (i < length chunk → get_or chunk i 0 ≡ LF) → UpToLF chunk position b₀ i (held carry n k w)
  pass_last h = record { goes_on = p.goes_on; from = p.from; inside = p.inside; feed = h }
