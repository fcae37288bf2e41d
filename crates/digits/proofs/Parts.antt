-- Parts of rows. The code takes a part from a place to another, or to the row's end.
-- Assumes nothing.
use Rattle.std.proofs.Common.{◌≡◌, ℕ, zero, suc, ◌+◌, ◌-◌, ◌≤◌, List, [], ◌∷◌, ◌++◌, length, take, drop, sym, refl, ap, ◌∙◌, ap₂, append_assoc, append-nil, arith, length-drop, drop_of_length-le, length-take, take_all, drop-drop}
use Rattle.digits.specs.Common.{Every, pasted}

pub rest_is : (l : List ℕ) (k : ℕ) → take (length l - k) (drop k l) ≡ drop k l
rest_is l k = take_all (length l - k) (drop k l) (omega (arith, length-drop k l))

-- what was pasted at the start of the part was pasted at its place
pub rest_pasted : (out : List ℕ) (at : ℕ) (xs : List ℕ) {part : List ℕ} → part ≡ pasted (drop at out) 0 xs
    → take at out ++ (part ++ drop (length out - at) (drop at out)) ≡ pasted out at xs
rest_pasted out at xs p =
    let none : drop (length out - at) (drop at out) ≡ [] = drop_of_length-le (drop at out) {i = length out - at} (omega (arith, length-drop at out)) in
    let n : 0 + length xs ≡ length xs = omega arith in
    let after : drop (0 + length xs) (drop at out) ≡ drop (at + length xs) out = ap (λ (k : ℕ). drop k (drop at out)) n ∙ drop-drop (length xs) at out in
    ap₂ (λ (a b : List ℕ). take at out ++ (a ++ b)) p none
    ∙ ap (λ (l : List ℕ). take at out ++ l) (append-nil (pasted (drop at out) 0 xs) ∙ ap (λ (l : List ℕ). xs ++ l) after)
    ∙ sym (append_assoc (take at out) xs (drop (at + length xs) out))

-- and so was what was copied to its start
pub rest_copied : (out : List ℕ) (at : ℕ) (xs : List ℕ)
    → take at out ++ ((xs ++ drop (length xs) (take (length out - at) (drop at out))) ++ drop (length out - at) (drop at out)) ≡ pasted out at xs
rest_copied out at xs =
    let n : length xs ≡ 0 + length xs = omega arith in
    rest_pasted out at xs (ap (λ (b : List ℕ). xs ++ drop (length xs) b) (rest_is out at) ∙ ap (λ (k : ℕ). xs ++ drop k (drop at out)) n)

-- the part from a place to another, as the code takes it
pub part_is : (pool : List ℕ) (at len : ℕ) → take (at + len - at) (drop at pool) ≡ take len (drop at pool)
part_is pool at len = let n : at + len - at ≡ len = omega arith in rw n

pub part_length : (pool : List ℕ) (at len : ℕ) → at + len ≤ length pool → length (take len (drop at pool)) ≡ len
part_length pool at len h = simp (length-take, length-drop) (omega arith)

pub none_left : (l : List ℕ) → length l ≡ 0 → l ≡ []
none_left [] n = refl
none_left (a ∷ l) n = absurd (omega arith)

-- what holds of each element of a list holds of each of its front, and of each after that
pub every_front : (P : ℕ → Type 0) (front after : List ℕ) → Every P (front ++ after) → Every P front
every_front P [] after h = tt
every_front P (a ∷ front) after (h, hs) = (h, every_front P front after hs)

pub every_after : (P : ℕ → Type 0) (front after : List ℕ) → Every P (front ++ after) → Every P after
every_after P [] after h = h
every_after P (a ∷ front) after (h, hs) = every_after P front after hs

pub every_both : (P : ℕ → Type 0) (front after : List ℕ) → Every P front → Every P after → Every P (front ++ after)
every_both P [] after h k = k
every_both P (a ∷ front) after (h, hs) k = (h, every_both P front after hs k)

-- and so of each that is taken, and of each that is left
pub every_take : (P : ℕ → Type 0) (n : ℕ) (l : List ℕ) → Every P l → Every P (take n l)
every_take P zero l h = tt
every_take P (suc n) [] h = tt
every_take P (suc n) (x ∷ l) (h, hs) = (h, every_take P n l hs)

pub every_drop : (P : ℕ → Type 0) (n : ℕ) (l : List ℕ) → Every P l → Every P (drop n l)
every_drop P zero l h = h
every_drop P (suc n) [] h = tt
every_drop P (suc n) (x ∷ l) (h, hs) = every_drop P n l hs
