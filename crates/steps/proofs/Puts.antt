-- What lines put at an address: they are walked once, and what `last_at` finds among their placements is the last byte that is put there;
-- each byte of lines that pass lies inside; and what is owed to a place has one mark and one byte.
-- Of a loader this needs only the bytes that each line holds, and where they lie.
-- Assumes nothing.
use mathlib.Core.Path.{◌≡◌, refl, sym, ap, ◌∙◌}
use mathlib.Core.Logic.{◌≢◌, ◌⊎◌, inl, inr}
use Prim.Native.Nat.{ℕ, zero, suc, ◌+◌, ◌≤◌, ◌<◌}
use native.Mathlib.Nat.{zero-add, add-zero}
use native.Mathlib.Omega.{arith}
use mathlib.Core.Bool.{Bool, true, false}
use mathlib.Core.Option
use mathlib.Core.Option.{Option, none, some}
use mathlib.Core.List.{List, [], ◌∷◌, ◌++◌, append_assoc, append-nil, nil≢cons, head-eq_of_cons-eq, tail-eq_of_cons-eq}
use lib.Dec.{eqb}
use lib.ListN.{length, get_or, take, length-append, get_or-append}
use lib.Seq.{take-append_seam, take-append-le, get_or-append_seam}
use borrow.Author.Tests.{eqb-true, eqb-false}
use Rattle.digits.specs.Common.{or_else}
use Rattle.std.specs.Prelude.{if◌then◌else◌}
use Rattle.steps.specs.Steps.{Placement}
use Rattle.steps.specs.Sites.{last_at, mark}
use Rattle.steps.specs.Runs.{spread}
use Rattle.steps.specs.Account.{Account, AllPass, all_states}
use Rattle.steps.specs.Puts.{LastPut, OwedPut, FirstOut}
use Rattle.steps.proofs.Places.{last_append}
use Rattle.steps.proofs.Firsts.{AllInside, not_empty}

-- ---- one record

module _ (at : ℕ → ℕ) where
  pub length_spread : (i : ℕ) (bytes : List ℕ) → length (spread at i bytes) ≡ length bytes
  unfolding spread
  length_spread i [] = refl
  length_spread i (b ∷ bytes) = ap suc (length_spread (suc i) bytes)

  pub spread_at : (i : ℕ) (bytes : List ℕ) (j : ℕ) → j < length bytes
      → get_or (spread at i bytes) j (record { address = 0; byte = 0 }) ≡ record { address = at (i + j); byte = get_or bytes j 0 }
  unfolding spread
  spread_at i [] j h = absurd (omega arith)
  spread_at i (b ∷ bytes) zero h = rw (add-zero i)
  spread_at i (b ∷ bytes) (suc j) h = let e : i + suc j ≡ suc i + j = omega arith in rw e (spread_at (suc i) bytes j (omega arith))

  -- the first bytes lie inside, if their placements do
  pub first_inside : (inside : ℕ → Bool) (i : ℕ) (bytes : List ℕ) (before rest : List Placement) → spread at i bytes ≡ before ++ rest
      → AllInside inside before → (j : ℕ) → j < length before → inside (at (i + j)) ≡ true
  unfolding spread
  first_inside inside i bytes [] rest e x j h = absurd (omega arith)
  first_inside inside i [] (p ∷ before) rest e x j h = absurd (nil≢cons e)
  first_inside inside i (b ∷ bytes) (p ∷ before) rest e (x, xs) zero h = rw (add-zero i) (ap (λ (q : Placement). inside q.address) (head-eq_of_cons-eq e) ∙ x)
  first_inside inside i (b ∷ bytes) (p ∷ before) rest e (x, xs) (suc j) h =
      let s : i + suc j ≡ suc i + j = omega arith in rw s (first_inside inside (suc i) bytes before rest (tail-eq_of_cons-eq e) xs j (omega arith))

  module _ (a : ℕ) where
    -- what the bytes from byte i on have at the address: none of them, or this one as the last
    abbrev pub InRecord : (i : ℕ) → List ℕ → Option ℕ → Type 0
    InRecord i bytes none = (j : ℕ) → j < length bytes → at (i + j) ≢ a
    InRecord i bytes (some b) =
        (j : ℕ) × (j < length bytes) × (at (i + j) ≡ a) × (get_or bytes j 0 ≡ b) × ((k : ℕ) → k < length bytes → at (i + k) ≡ a → k ≤ j)

    one_byte : (i b : ℕ) (bytes : List ℕ) (o : Option ℕ) (t : Bool) → eqb (at i) a ≡ t → InRecord (suc i) bytes o
        → InRecord i (b ∷ bytes) (or_else o (if t then some b else none))
    one_byte i b bytes (some c) t e (j, h, q, g, later) = (suc j, omega arith, rw (step j) q, g, at_most)
      where
        step : (k : ℕ) → i + suc k ≡ suc i + k
        step k = omega arith

        at_most : (k : ℕ) → k < suc (length bytes) → at (i + k) ≡ a → k ≤ suc j
        at_most zero l p = omega arith
        at_most (suc k) l p = let r = later k (omega arith) (rw (← (step k)) p) in omega arith
    one_byte i b bytes none true e f = (zero, omega arith, rw (add-zero i) (eqb-true (at i) a e), refl, at_most)
      where
        at_most : (k : ℕ) → k < suc (length bytes) → at (i + k) ≡ a → k ≤ 0
        at_most zero l p = omega arith
        at_most (suc k) l p = let s : i + suc k ≡ suc i + k = omega arith in absurd (f k (omega arith) (rw (← s) p))
    one_byte i b bytes none false e f = nowhere
      where
        nowhere : (k : ℕ) → k < suc (length bytes) → at (i + k) ≢ a
        nowhere zero l p = eqb-false (at i) a e (rw (← (add-zero i)) p)
        nowhere (suc k) l p = let s : i + suc k ≡ suc i + k = omega arith in f k (omega arith) (rw (← s) p)

    pub in_record : (i : ℕ) (bytes : List ℕ) → InRecord i bytes (last_at a (spread at i bytes))
    unfolding last_at spread
    in_record i [] = λ j h. absurd (omega arith)
    in_record i (b ∷ bytes) = one_byte i b bytes (last_at a (spread at (suc i) bytes)) (eqb (at i) a) refl (in_record (suc i) bytes)

-- ---- lines after others

-- the bytes of a data record, and where each lies
pub record Laid : Type 0 where
  pub at : ℕ → ℕ
  pub bytes : List ℕ

abbrev pub laid_states : Option Laid → List Placement
laid_states none = []
laid_states (some x) = spread x.at 0 x.bytes

-- what a line after others holds, and what it states
pub record Holding : Type 0 where
  pub holds : (ahead : List (List ℕ)) (line : List ℕ) → Option Laid
  pub states : (ahead : List (List ℕ)) (line : List ℕ) → List Placement
  pub empty_none : (ahead : List (List ℕ)) → holds ahead [] ≡ none
  pub same : (ahead : List (List ℕ)) (line : List ℕ) → states ahead line ≡ laid_states (holds ahead line)

module _ (h : Holding) where
  -- byte i of line n lies at the address, where the lines stand after others
  pub record PutsAfter (ahead ls : List (List ℕ)) (a n i byte : ℕ) : Type 0 where
    pub laid : Laid
    pub there : h.holds (ahead ++ take n ls) (get_or ls n []) ≡ some laid
    pub inside : i < length laid.bytes
    pub has : get_or laid.bytes i 0 ≡ byte
    pub lies : laid.at i ≡ a

  no_lines : (ahead : List (List ℕ)) (a n i b : ℕ) → ¬ PutsAfter ahead [] a n i b
  no_lines ahead a n i b p = let e = h.empty_none (ahead ++ take n []) in let z : ◌≡◌ {A = ℕ} 0 1 = cc p.there in omega arith

  module _ (a : ℕ) where
    -- what the lines have at the address: nothing, or this byte as the last
    abbrev pub Among : (ahead ls : List (List ℕ)) → Option ℕ → Type 0
    Among ahead ls none = (n i b : ℕ) → ¬ PutsAfter ahead ls a n i b
    Among ahead ls (some byte) =
        (line : ℕ) × (i : ℕ) × PutsAfter ahead ls a line i byte
        × ((n j b : ℕ) → PutsAfter ahead ls a n j b → (n < line) ⊎ ((n ≡ line) × (j ≤ i)))

    -- what the first of them has
    abbrev OnFirst : (ahead : List (List ℕ)) (l : List ℕ) (ls : List (List ℕ)) → Option ℕ → Type 0
    OnFirst ahead l ls none = (i b : ℕ) → ¬ PutsAfter ahead (l ∷ ls) a zero i b
    OnFirst ahead l ls (some byte) =
        (i : ℕ) × PutsAfter ahead (l ∷ ls) a zero i byte × ((j b : ℕ) → PutsAfter ahead (l ∷ ls) a zero j b → j ≤ i)

    module _ (ahead : List (List ℕ)) (l : List ℕ) (ls : List (List ℕ)) where
      on_it : (i b : ℕ) (p : PutsAfter ahead (l ∷ ls) a zero i b) → h.holds ahead l ≡ some p.laid
      on_it i b p = rw append-nil at p.there

      met : (x : Laid) → h.holds ahead l ≡ some x → (i b : ℕ) → PutsAfter ahead (l ∷ ls) a zero i b → (i < length x.bytes) × (x.at (0 + i) ≡ a)
      met x e i b p =
          let q = on_it i b p in
          let same : p.laid ≡ x = cc in
          (rw (← same) p.inside, rw (zero-add i, ← same) p.lies)

      put : (x : Laid) → h.holds ahead l ≡ some x → (j b : ℕ) → j < length x.bytes → x.at (0 + j) ≡ a → get_or x.bytes j 0 ≡ b → PutsAfter ahead (l ∷ ls) a zero j b
      put x e j b k q g = record { laid = x; there = rw append-nil e; inside = k; has = g; lies = rw (zero-add j) at q }

      on_data : (x : Laid) → h.holds ahead l ≡ some x → (o : Option ℕ) → InRecord x.at a 0 x.bytes o → OnFirst ahead l ls o
      on_data x e none f = λ j b p. let (k, q) = met x e j b p in f j k q
      on_data x e (some b) (j, k, q, g, later) = (j, put x e j b k q g, λ d c p. let (i, r) = met x e d c p in later d i r)

      on_first : OnFirst ahead l ls (last_at a (laid_states (h.holds ahead l)))
      unfolding last_at
      on_first = go (h.holds ahead l) refl
        where
          go : (o : Option Laid) → h.holds ahead l ≡ o → OnFirst ahead l ls (last_at a (laid_states o))
          go none e = λ i b p. let q = on_it i b p in let z : ◌≡◌ {A = ℕ} 0 1 = cc in omega arith
          go (some x) e = on_data x e (last_at a (spread x.at 0 x.bytes)) (in_record x.at a 0 x.bytes)

      -- the lines after the first
      down : (n i b : ℕ) → PutsAfter ahead (l ∷ ls) a (suc n) i b → PutsAfter (ahead ++ (l ∷ [])) ls a n i b
      down n i b p = record { laid = p.laid; there = rw append_assoc p.there; inside = p.inside; has = p.has; lies = p.lies }

      up : (n i b : ℕ) → PutsAfter (ahead ++ (l ∷ [])) ls a n i b → PutsAfter ahead (l ∷ ls) a (suc n) i b
      up n i b p = record { laid = p.laid; there = rw append_assoc at p.there; inside = p.inside; has = p.has; lies = p.lies }

      both : (o₁ o₂ : Option ℕ) → OnFirst ahead l ls o₁ → Among (ahead ++ (l ∷ [])) ls o₂ → Among ahead (l ∷ ls) (or_else o₂ o₁)
      both o₁ (some b) f (line, i, p, later) = (suc line, i, up line i b p, last)
        where
          last : (n j c : ℕ) → PutsAfter ahead (l ∷ ls) a n j c → (n < suc line) ⊎ ((n ≡ suc line) × (j ≤ i))
          last zero j c q = inl (omega arith)
          last (suc n) j c q = go (later n j c (down n j c q))
            where
              go : (n < line) ⊎ ((n ≡ line) × (j ≤ i)) → (suc n < suc line) ⊎ ((suc n ≡ suc line) × (j ≤ i))
              go (inl k) = inl (omega arith)
              go (inr (e, k)) = inr (ap suc e, k)
      both (some b) none (i, p, later) g = (zero, i, p, last)
        where
          last : (n j c : ℕ) → PutsAfter ahead (l ∷ ls) a n j c → (n < 0) ⊎ ((n ≡ 0) × (j ≤ i))
          last zero j c q = inr (refl, later j c q)
          last (suc n) j c q = absurd (g n j c (down n j c q))
      both none none f g = nothing
        where
          nothing : (n j c : ℕ) → ¬ PutsAfter ahead (l ∷ ls) a n j c
          nothing zero j c q = f j c q
          nothing (suc n) j c q = g n j c (down n j c q)

    pub among : (ahead ls : List (List ℕ)) → Among ahead ls (last_at a (all_states h.states ahead ls))
    unfolding last_at all_states
    among ahead [] = λ n i b p. no_lines ahead a n i b p
    among ahead (l ∷ ls) =
        let later = all_states h.states (ahead ++ (l ∷ [])) ls in
        rw (h.same ahead l, last_append a (laid_states (h.holds ahead l)) later)
        (both ahead l ls (last_at a (laid_states (h.holds ahead l))) (last_at a later) (on_first ahead l ls) (among (ahead ++ (l ∷ [])) ls))

  -- ---- what is owed to a place

  -- by what was found for it, in the words of a loader
  module _ (ls : List (List ℕ)) (a old : ℕ) (P : (n i b : ℕ) → Type 0) (to : (n i b : ℕ) → PutsAfter [] ls a n i b → P n i b) (from : (n i b : ℕ) → P n i b → PutsAfter [] ls a n i b) where
    owed_for : (o : Option ℕ) → Among a [] ls o → OwedPut P old (mark o) (Option.get_or o old)
    unfolding mark
    owed_for none f =
        record {
          one_or_zero = inr refl;
          marked_iff_put = (λ e. absurd (omega arith), λ (n, i, b, p). absurd (f n i b (from n i b p)));
          marked_holds = λ e. absurd (omega arith);
          unmarked_keeps = λ e. refl;
        }
    owed_for (some b) (line, i, p, later) =
        record {
          one_or_zero = inl refl;
          marked_iff_put = (λ e. (line, i, b, to line i b p), λ x. refl);
          marked_holds = λ e. record { line = line; i = i; puts = to line i b p; none_later = λ n j c x. later n j c (from n j c x) };
          unmarked_keeps = λ e. absurd (omega arith);
        }

    pub owed_put : let o = last_at a (all_states h.states [] ls) in OwedPut P old (mark o) (Option.get_or o old)
    owed_put = owed_for (last_at a (all_states h.states [] ls)) (among a [] ls)

  -- ---- inside and outside

  module _ (w : Account) (inside : ℕ → Bool) (lie : (ahead : List (List ℕ)) (l : List ℕ) → w.passes ahead l → AllInside inside (laid_states (h.holds ahead l))) where
    line_inside : (ahead : List (List ℕ)) (l : List ℕ) (ls : List (List ℕ)) → w.passes ahead l → (i a b : ℕ) → PutsAfter ahead (l ∷ ls) a zero i b → inside a ≡ true
    line_inside ahead l ls x i a b p =
        let e = on_it a ahead l ls i b p in
        let ps = spread p.laid.at 0 p.laid.bytes in
        let (k, q) = met a ahead l ls p.laid e i b p in
        rw (← q) (first_inside p.laid.at inside 0 p.laid.bytes ps [] (sym (append-nil ps)) (rw e at (lie ahead l x)) i (rw (length_spread p.laid.at 0 p.laid.bytes) k))

    -- each byte of lines that pass lies inside
    pub all_inside : (ahead ls : List (List ℕ)) → AllPass w ahead ls → (n i a b : ℕ) → PutsAfter ahead ls a n i b → inside a ≡ true
    all_inside ahead [] x n i a b p = absurd (no_lines ahead a n i b p)
    all_inside ahead (l ∷ ls) x zero i a b p = line_inside ahead l ls x.0 i a b p
    all_inside ahead (l ∷ ls) x (suc n) i a b p = all_inside (ahead ++ (l ∷ [])) ls x.1 n i a b (down a ahead l ls n i b p)

    module _ (ahead : List (List ℕ)) (line : List ℕ) (later : List (List ℕ)) (pass : AllPass w [] ahead) (before after : List Placement) (p : Placement)
        (first : AllInside inside before) (out : inside p.address ≡ false) where
      abbrev all : List (List ℕ)
      all = ahead ++ (line ∷ later)

      -- the record on the line that stops the load
      module _ (x : Laid) (e : h.holds ahead line ≡ some x) (s : spread x.at 0 x.bytes ≡ before ++ (p ∷ after)) where
        there : h.holds (take (length ahead) all) (get_or all (length ahead) []) ≡ some x
        there = rw (take-append_seam ahead (line ∷ later), get_or-append_seam ahead line later []) e

        short : length before < length x.bytes
        short = let n = length_spread x.at 0 x.bytes in let k = ap length s in let t = length-append before (p ∷ after) in omega arith

        lies_there : x.at (length before) ≡ p.address
        lies_there =
            let here = spread_at x.at 0 x.bytes (length before) short in
            let same = ap (λ (ps : List Placement). get_or ps (length before) (record { address = 0; byte = 0 })) s ∙ get_or-append_seam before p after (record { address = 0; byte = 0 }) in
            rw (← (zero-add (length before))) (ap (λ (q : Placement). q.address) (sym here ∙ same))

        earlier : (m j a b : ℕ) → PutsAfter [] all a m j b → (m < length ahead) ⊎ ((m ≡ length ahead) × (j < length before)) → inside a ≡ true
        earlier m j a b q (inl k) =
            all_inside [] ahead pass m j a b
            (record {
              laid = q.laid;
              there = rw (take-append-le m ahead (line ∷ later) (omega arith), get_or-append ahead (line ∷ later) [] m k) at q.there;
              inside = q.inside;
              has = q.has;
              lies = q.lies;
            })
        earlier m j a b q (inr (k, l)) =
            let again : h.holds (take (length ahead) all) (get_or all (length ahead) []) ≡ some q.laid = rw k at q.there in
            let one = there in
            let same : q.laid ≡ x = cc in
            let is : x.at (0 + j) ≡ a = rw (zero-add j, ← same) q.lies in
            rw (← is) (first_inside x.at inside 0 x.bytes before (p ∷ after) s first j l)

      pub first_out : h.states ahead line ≡ before ++ (p ∷ after) → FirstOut inside (λ n i a b. PutsAfter [] all a n i b) p.address (suc (length ahead))
      first_out s = go (h.holds ahead line) refl (sym (h.same ahead line) ∙ s)
        where
          go : (o : Option Laid) → h.holds ahead line ≡ o → laid_states o ≡ before ++ (p ∷ after) → FirstOut inside (λ n i a b. PutsAfter [] all a n i b) p.address (suc (length ahead))
          go none e s = absurd (not_empty before p after s)
          go (some x) e s =
              record {
                n = length ahead;
                i = length before;
                byte = get_or x.bytes (length before) 0;
                number = refl;
                puts = record { laid = x; there = there x e s; inside = short x e s; has = refl; lies = lies_there x e s };
                out = out;
                earlier = earlier x e s;
              }

-- ---- nothing else meets it

-- two last bytes are one
pub one_last : (P : (n i b : ℕ) → Type 0) → ((n i b b' : ℕ) → P n i b → P n i b' → b ≡ b') → (b b' : ℕ) → LastPut P b → LastPut P b' → b ≡ b'
one_last P only b b' p q =
    let (l, d) = same (p.none_later q.line q.i b' q.puts) (q.none_later p.line p.i b p.puts) in
    only q.line q.i b b' (rw (l, d) at p.puts) q.puts
  where
    same : (q.line < p.line) ⊎ ((q.line ≡ p.line) × (q.i ≤ p.i)) → (p.line < q.line) ⊎ ((p.line ≡ q.line) × (p.i ≤ q.i)) → (p.line ≡ q.line) × (p.i ≡ q.i)
    same (inl h) (inl k) = absurd (omega arith)
    same (inl h) (inr (e, k)) = absurd (omega arith)
    same (inr (e, h)) (inl k) = absurd (omega arith)
    same (inr (e, h)) (inr (f, k)) = (f, omega arith)

pub owed_put_unique : (P : (n i b : ℕ) → Type 0) → ((n i b b' : ℕ) → P n i b → P n i b' → b ≡ b')
    → (old m m' b b' : ℕ) → OwedPut P old m b → OwedPut P old m' b' → (m ≡ m') × (b ≡ b')
owed_put_unique P only old m m' b b' x y = go x.one_or_zero y.one_or_zero
  where
    -- one is marked and the other is not
    differ : (c d n n' : ℕ) → OwedPut P old n c → OwedPut P old n' d → n ≡ 1 → n' ≡ 0 → ⊥
    differ c d n n' p q e f = let k = q.marked_iff_put.1 (p.marked_iff_put.0 e) in omega arith

    go : (m ≡ 1) ⊎ (m ≡ 0) → (m' ≡ 1) ⊎ (m' ≡ 0) → (m ≡ m') × (b ≡ b')
    go (inl e) (inl f) = (e ∙ sym f, one_last P only b b' (x.marked_holds e) (y.marked_holds f))
    go (inl e) (inr f) = absurd (differ b b' m m' x y e f)
    go (inr e) (inl f) = absurd (differ b' b m' m y x f e)
    go (inr e) (inr f) = (e ∙ sym f, x.unmarked_keeps e ∙ sym (y.unmarked_keeps f))
