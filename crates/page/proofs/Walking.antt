-- The walk over the records of a file: from a place on, the places without a mark are passed, and a piece is taken whole.
-- Assumes nothing.
use mathlib.Core.Path.{◌≡◌, refl, ◌∙◌, ap}
use mathlib.Core.Logic.{◌≢◌, ◌⊎◌, inl, inr}
use Prim.Native.Nat.{ℕ, zero, suc, ◌+◌, ◌-◌, ◌/◌, ◌%◌, ◌≤◌, ◌<◌}
use native.Mathlib.Omega.{arith}
use mathlib.Core.Bool.{Bool, true, false, not}
use mathlib.Core.Option.{none, some}
use mathlib.Core.List.{List, [], ◌∷◌, ◌++◌}
use lib.Dec.{eqb}
use lib.ListN.{length, get_or, drop, drop_of_length-le}
use lib.Seq.{drop-cons}
use borrow.Author.Tests.{eq-eqb, ne_eqb, eqb-true}
use Rattle.std.specs.Option.{option_eq}
use Rattle.std.specs.Prelude.{if◌then◌else◌}
use Rattle.record.specs.declared.Record.TheVariants.{Data, EndOfFile, ExtendedLinearAddress}
use Rattle.digits.proofs.Tests.{if_true, if_false, split, or_true}
use Rattle.page.specs.Pieces.{Piece, ends_before, one_longer, starting, pieces}
use Rattle.page.specs.File.{upper, data_of, extension, records}
use Rattle.page.specs.Helpers.{PieceEnd}
use Rattle.page.specs.Walk.{in_force, from_place}
use Rattle.std.specs.Prelude.{Option as CodeOption, None, Some}
use Rattle.page.proofs.Marks.{NextFlag}
use Rattle.page.proofs.Records.{by_latest}

-- ---- the tests, from facts

ends_here : (p : Piece) (m a : ℕ) → (p.size ≡ 16) ⊎ ((a % 65536 ≡ 0) ⊎ (m ≢ 1)) → ends_before p m a ≡ true
unfolding ends_before
ends_here p m a (inl h) = rw (eq-eqb p.size 16 h) (or_true (not (eqb m 1)))
ends_here p m a (inr (inl h)) = rw (eq-eqb (a % 65536) 0 h, or_true (eqb p.size 16)) (or_true (not (eqb m 1)))
ends_here p m a (inr (inr h)) = rw (ne_eqb m 1 h)

stays : (p : Piece) (m a : ℕ) → m ≡ 1 → p.size ≢ 16 → a % 65536 ≢ 0 → ends_before p m a ≡ false
unfolding ends_before
stays p m a h k l = rw (eq-eqb m 1 h, ne_eqb p.size 16 k, ne_eqb (a % 65536) 0 l)

-- ---- one place

unmarked : (first place m : ℕ) (marks : List ℕ) → m ≢ 1 → pieces first place none (m ∷ marks) ≡ pieces first (suc place) none marks
unfolding pieces
unmarked first place m marks h = ap (λ (b : Bool). pieces first (suc place) (if b then some (record { place = place; size = 1 }) else none) marks) (ne_eqb m 1 h)

starts_here : (first place m : ℕ) (marks : List ℕ) → m ≡ 1 → pieces first place none (m ∷ marks) ≡ pieces first (suc place) (some (record { place = place; size = 1 })) marks
unfolding pieces
starts_here first place m marks h = ap (λ (b : Bool). pieces first (suc place) (if b then some (record { place = place; size = 1 }) else none) marks) (eq-eqb m 1 h)

ends_now : (first place : ℕ) (p : Piece) (m : ℕ) (marks : List ℕ) → ends_before p m (first + place) ≡ true
    → pieces first place (some p) (m ∷ marks) ≡ p ∷ pieces first place none (m ∷ marks)
unfolding pieces
ends_now first place p m marks h = if_true (ends_before p m (first + place)) _ _ h

longer : (first place : ℕ) (p : Piece) (m : ℕ) (marks : List ℕ) → ends_before p m (first + place) ≡ false
    → pieces first place (some p) (m ∷ marks) ≡ pieces first (suc place) (some (one_longer p)) marks
unfolding pieces
longer first place p m marks h = if_false (ends_before p m (first + place)) _ _ h

-- ---- the pieces from a place on

-- what is not marked is passed
passes : (first n from : ℕ) (marks : List ℕ) → from + n ≤ length marks → ((i : ℕ) → from ≤ i → i < from + n → get_or marks i 0 ≢ 1)
    → pieces first from none (drop from marks) ≡ pieces first (from + n) none (drop (from + n) marks)
passes first zero from marks l h = let e : from + 0 ≡ from = omega arith in rw e
passes first (suc n) from marks l h =
    let e : suc from + n ≡ from + suc n = omega arith in
    ap (pieces first from none) (drop-cons marks from 0 (omega arith))
    ∙ unmarked first from (get_or marks from 0) (drop (suc from) marks) (h from (omega arith) (omega arith))
    ∙ rw e at (passes first n (suc from) marks (omega arith) (λ i a b. h i (omega arith) (omega arith)))

to_next_marked : (first from r : ℕ) (marks : List ℕ) → NextFlag marks from r → pieces first from none (drop from marks) ≡ pieces first r none (drop r marks)
to_next_marked first from r marks n =
    let e : from + (r - from) ≡ r = omega (arith, n.low) in
    rw e at (passes first (r - from) from marks (omega (arith, n.low, n.high)) (λ i a b. n.unmarked i a (omega (arith, n.low))))

last : (first place : ℕ) (p : Piece) → pieces first place (some p) [] ≡ p ∷ pieces first place none []
unfolding pieces
last first place p = refl

-- a piece of s places that has to end at a place
ends_at : (first start r s : ℕ) (marks : List ℕ) → PieceEnd marks first start r → start + s ≡ r
    → pieces first r (some (record { place = start; size = s })) (drop r marks) ≡ record { place = start; size = s } ∷ pieces first r none (drop r marks)
ends_at first start r s marks e h = go e.ends
  where
    p : Piece
    p = record { place = start; size = s }

    Ends : Type 0
    Ends = pieces first r (some p) (drop r marks) ≡ p ∷ pieces first r none (drop r marks)

    inside : r < length marks → (s ≡ 16) ⊎ (((first + r) % 65536 ≡ 0) ⊎ (get_or marks r 0 ≢ 1)) → Ends
    inside u f = rw (drop-cons marks r 0 u) (ends_now first r p (get_or marks r 0) (drop (suc r) marks) (ends_here p (get_or marks r 0) (first + r) f))

    at_end : r ≡ length marks → Ends
    at_end u = rw (drop_of_length-le marks {i = r} (omega arith)) (last first r p)

    either : (s ≡ 16) ⊎ (((first + r) % 65536 ≡ 0) ⊎ (get_or marks r 0 ≢ 1)) → Ends
    either f = split (length marks) r (λ u. at_end (omega (arith, e.inside))) (λ u. inside u f)

    go : (r ≡ length marks) ⊎ ((r ≡ start + 16) ⊎ (((first + start) % 65536 + r ≡ start + 65536) ⊎ (get_or marks r 0 ≢ 1))) → Ends
    go (inl u) = at_end u
    go (inr (inl u)) = either (inl (omega arith))
    go (inr (inr (inl u))) = either (inr (inl (omega arith)))
    go (inr (inr (inr u))) = either (inr (inr u))

-- a piece that is begun grows up to its end
grows : (first start r n s : ℕ) (marks : List ℕ) → PieceEnd marks first start r → start + s + n ≡ r → 1 ≤ s
    → pieces first (start + s) (some (record { place = start; size = s })) (drop (start + s) marks)
    ≡ record { place = start; size = r - start } ∷ pieces first r none (drop r marks)
grows first start r zero s marks e h l =
    let k : start + s ≡ r = omega arith in
    let z : r - start ≡ s = omega arith in
    rw (k, z) (ends_at first start r s marks e k)
grows first start r (suc n) s marks e h l =
    let k : suc (start + s) ≡ start + suc s = omega arith in
    ap (pieces first (start + s) (some p)) (drop-cons marks (start + s) 0 (omega (arith, e.inside)))
    ∙ longer first (start + s) p (get_or marks (start + s) 0) (drop (suc (start + s)) marks)
    (stays p (get_or marks (start + s) 0) (first + (start + s)) (e.marked (start + s) (omega arith) (omega arith)) (λ z. omega (arith, e.few)) (λ z. between (omega (arith, e.unbroken)) z))
    ∙ ap (λ (j : ℕ). pieces first j (some (one_longer p)) (drop j marks)) k
    ∙ grows first start r n (suc s) marks e (omega arith) (omega arith)
  where
    p : Piece
    p = record { place = start; size = s }

    between : (first + start) % 65536 + s < 65536 → (first + (start + s)) % 65536 ≡ 0 → ⊥
    between u z = omega arith

pub piece_taken : (first start r : ℕ) (marks : List ℕ) → start < length marks → get_or marks start 0 ≡ 1 → PieceEnd marks first start r
    → pieces first start none (drop start marks) ≡ record { place = start; size = r - start } ∷ pieces first r none (drop r marks)
piece_taken first start r marks l m e =
    let k : suc start ≡ start + 1 = omega arith in
    ap (pieces first start none) (drop-cons marks start 0 l)
    ∙ starts_here first start (get_or marks start 0) (drop (suc start) marks) m
    ∙ ap (λ (j : ℕ). pieces first j (some (record { place = start; size = 1 })) (drop j marks)) k
    ∙ grows first start r (r - (start + 1)) 1 marks e (omega (arith, e.more)) (omega arith)

-- what is begun ends up in the first piece
starts_with : (first place : ℕ) (p : Piece) (marks : List ℕ) → (q : Piece) × (ps : List Piece) × (q.place ≡ p.place) × (pieces first place (some p) marks ≡ q ∷ ps)
unfolding pieces
starts_with first place p [] = (p, [], refl, refl)
starts_with first place p (m ∷ marks) = go (ends_before p m (first + place)) (starts_with first (suc place) (one_longer p) marks)
  where
    go : (b : Bool) → ((q : Piece) × (ps : List Piece) × (q.place ≡ p.place) × (pieces first (suc place) (some (one_longer p)) marks ≡ q ∷ ps))
        → (q : Piece) × (ps : List Piece) × (q.place ≡ p.place)
        × ((if b then p ∷ pieces first (suc place) (starting m place) marks else pieces first (suc place) (some (one_longer p)) marks) ≡ q ∷ ps)
    go true h = (p, pieces first (suc place) (starting m place) marks, refl, refl)
    go false h = h

piece_there : (first start : ℕ) (marks : List ℕ) → start < length marks → get_or marks start 0 ≡ 1
    → (q : Piece) × (ps : List Piece) × (q.place ≡ start) × (pieces first start none (drop start marks) ≡ q ∷ ps)
piece_there first start marks l m =
    let (q, ps, h, e) = starts_with first (suc start) (record { place = start; size = 1 }) (drop (suc start) marks) in
    (q, ps, h, ap (pieces first start none) (drop-cons marks start 0 l) ∙ starts_here first start (get_or marks start 0) (drop (suc start) marks) m ∙ e)

-- a place that is not the end is marked
pub marked_there : {marks : List ℕ} {from r : ℕ} → NextFlag marks from r → r ≢ length marks → (r < length marks) × (get_or marks r 0 ≡ 1)
marked_there {marks} {from} {r} n h = (omega (arith, n.high), go n.there)
  where
    go : (r ≡ length marks) ⊎ (get_or marks r 0 ≡ 1) → get_or marks r 0 ≡ 1
    go (inl e) = absurd (h e)
    go (inr e) = e

-- ---- the records to come

other_bits : (latest : CodeOption ℕ) (u : ℕ) → latest ≢ Some u → in_force latest ≢ some u
other_bits None u n e = let z : ◌≡◌ {A = ℕ} 0 1 = cc in omega arith
other_bits (Some v) u n e = n (cc)

-- what the test for a change says
pub changed : (latest : CodeOption ℕ) (u : ℕ) → true ≡ not (option_eq eqb latest (Some u)) → latest ≢ Some u
changed None u e q = let z : ◌≡◌ {A = ℕ} 0 1 = cc in omega arith
changed (Some v) u e q =
    let k : eqb v u ≡ true = eq-eqb v u (cc) in
    let d = rw k at e in
    let z : ◌≡◌ {A = ℕ} 0 1 = cc in omega arith

pub unchanged : (latest : CodeOption ℕ) (u : ℕ) → false ≡ not (option_eq eqb latest (Some u)) → latest ≡ Some u
unchanged None u e = let z : ◌≡◌ {A = ℕ} 0 1 = cc in absurd (omega arith)
unchanged (Some v) u e = ap Some (eqb-true v u (go (eqb v u) refl e))
  where
    go : (b : Bool) → eqb v u ≡ b → false ≡ not b → eqb v u ≡ true
    go true q d = q
    go false q d = let z : ◌≡◌ {A = ℕ} 0 1 = cc in absurd (omega arith)

-- behind its own upper bits a piece needs no type 04 record, and else it has one
same_upper : (first u : ℕ) (p : Piece) (ps : List Piece) → upper first p ≡ u → records first (some u) (p ∷ ps) ≡ data_of first p ∷ records first (some u) ps
unfolding records
same_upper first u p ps h =
    rw h (by_latest (λ l. l ++ (data_of first p ∷ records first (some u) ps) ≡ data_of first p ∷ records first (some u) ps) (some u) u (λ e. refl) (λ n. absurd (n refl)))

new_upper : (first : ℕ) (latest : CodeOption ℕ) (u : ℕ) (p : Piece) (ps : List Piece) → upper first p ≡ u → latest ≢ Some u
    → records first (in_force latest) (p ∷ ps) ≡ ExtendedLinearAddress u ∷ records first (some u) (p ∷ ps)
unfolding records
new_upper first latest u p ps h n =
    rw h
    (by_latest (λ l. l ++ (data_of first p ∷ records first (some u) ps) ≡ ExtendedLinearAddress u ∷ extension (some u) u ++ (data_of first p ∷ records first (some u) ps)) (in_force latest) u
    (λ e. absurd (other_bits latest u n e))
    (λ _. by_latest (λ l. ExtendedLinearAddress u ∷ data_of first p ∷ records first (some u) ps ≡ ExtendedLinearAddress u ∷ l ++ (data_of first p ∷ records first (some u) ps)) (some u) u
    (λ e. refl) (λ k. absurd (k refl))))

module _ (first : ℕ) (marks : List ℕ) (place start : ℕ) (latest : CodeOption ℕ) (next : NextFlag marks place start) where
  -- what is to come, from the next marked place on
  from_there : from_place first marks place latest false ≡ records first (in_force latest) (pieces first start none (drop start marks))
  unfolding from_place
  from_there = ap (records first (in_force latest)) (to_next_marked first place start marks next)

  pub at_the_end : start ≡ length marks → from_place first marks place latest false ≡ EndOfFile ∷ from_place first marks start latest true
  unfolding from_place records pieces
  at_the_end e = from_there ∙ rw (drop_of_length-le marks {i = start} (omega arith))

  module _ (there : start < length marks) (is_marked : get_or marks start 0 ≡ 1) where
    pub at_other_bits : latest ≢ Some ((first + start) / 65536)
        → from_place first marks place latest false ≡ ExtendedLinearAddress ((first + start) / 65536) ∷ from_place first marks start (Some ((first + start) / 65536)) false
    unfolding from_place
    at_other_bits n =
        let (q, ps, h, e) = piece_there first start marks there is_marked in
        let u : ℕ = (first + start) / 65536 in
        from_there ∙ rw e (new_upper first latest u q ps (ap (λ (x : ℕ). (first + x) / 65536) h) n)

    pub at_a_piece : latest ≡ Some ((first + start) / 65536) → (r : ℕ) → PieceEnd marks first start r
        → from_place first marks place latest false ≡ Data ((first + start) % 65536) start (r - start) ∷ from_place first marks r latest false
    unfolding from_place
    at_a_piece e r p =
        let u : ℕ = (first + start) / 65536 in
        from_there ∙ rw (e, piece_taken first start r marks there is_marked p) (same_upper first u (record { place = start; size = r - start }) _ refl)
