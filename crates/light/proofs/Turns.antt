-- A row of things in turn, each of which says something of the count, and each of which is shown by the count that is known then.
-- Assumes nothing.
use Rattle.std.proofs.Common.{◌≡◌, ℕ, ◌↔◌, List, [], ◌∷◌, ◌++◌, map, sym, refl, ap, ◌∙◌, subst, ap₂}
use mathlib.Core.Option.{Option, some}
use Rattle.digits.specs.Common.{Every}
use Rattle.light.specs.Colors.{Color, green, Outcome, counted, color, known_after, colors, LastCount, Sixteen}
use Rattle.light.specs.Claims.{EachShows, MeansGreen, EachGreen}
use Rattle.light.proofs.Colors.{every_joined, one_last, shown_so, known_is_last, green_exactly}

-- ---- green

-- a color is green exactly if that is what it means, by whatever says the same of the count and of the one before
pub green_by : (known : Option ℕ) (o : Outcome) (States Last : ℕ → Type 0) → ((n : ℕ) → (o ≡ counted n) ↔ States n) → ((b : ℕ) → (known ≡ some b) ↔ Last b)
    → (color known o ≡ green) ↔ MeansGreen States Last
green_by known o States Last states last = (there, back)
  where
    there : color known o ≡ green → MeansGreen States Last
    there e =
        let (b, n, k, is, a, f) = (green_exactly known o).0 e in
        record { count = n; states = (states n).0 is; before = b; stated_last = (last b).0 k; ahead = a; not_far = f }

    back : MeansGreen States Last → color known o ≡ green
    back g = (green_exactly known o).1 (g.before, g.count, (last g.before).1 g.stated_last, (states g.count).1 g.states, g.ahead, g.not_far)

-- ---- a row

module _ {A : Type 0} (says : A → Outcome) (Shown : A → Color → Type 0) where
  -- each leaves to the next what is known after it
  abbrev pub Turns : Option ℕ → List A → Type 0
  Turns known [] = Unit
  Turns known (c ∷ cs) = Shown c (color known (says c)) × Turns (known_after known (says c)) cs

  pub each_shows : ((c : A) → Sixteen (says c)) → (known : Option ℕ) (history : List Outcome) (cs : List A) → Every Sixteen history → LastCount history known
      → Turns known cs → EachShows says Shown history cs
  each_shows small known history [] past last t = tt
  each_shows small known history (c ∷ cs) past last (s, t) = (
    (color known (says c), shown_so history (says c) known past (small c) last, s),
    each_shows small (known_after known (says c)) (history ++ (says c ∷ [])) cs (every_joined Sixteen history (says c ∷ []) past (small c, tt))
        (known_is_last history known (says c) last) t,
  )

-- what is seen of each is seen of the colors of the history
pub in_order : {A B : Type 0} (says : A → Outcome) (seen : A → B) (of-color : Color → B) (known : Option ℕ) (cs : List A)
    → Turns says (λ (c : A) (k : Color). seen c ≡ of-color k) known cs → map seen cs ≡ map of-color (colors known (map says cs))
unfolding colors
in_order says seen of-color known [] t = refl
in_order {B = B} says seen of-color known (c ∷ cs) (s, t) = ap₂ (λ (x : B) (xs : List B). x ∷ xs) s (in_order says seen of-color (known_after known (says c)) cs t)

-- and each is green exactly if that is what it means
module _ {A B : Type 0} (says : A → Outcome) (seen : A → B) (of-color : Color → B) (apart : (k k' : Color) → of-color k ≡ of-color k' → k ≡ k')
    (States : A → ℕ → Type 0) (states : (c : A) (n : ℕ) → (says c ≡ counted n) ↔ States c n) where
  pub each_green : (known : Option ℕ) (history : List Outcome) (cs : List A) → LastCount history known → Turns says (λ (c : A) (k : Color). seen c ≡ of-color k) known cs
      → EachGreen says (λ (c : A). seen c ≡ of-color green) States history cs
  each_green known history [] last t = tt
  each_green known history (c ∷ cs) last (s, t) =
      let g : (color known (says c) ≡ green) ↔ MeansGreen (States c) (λ (b : ℕ). LastCount history (some b)) =
      green_by known (says c) (States c) (λ (b : ℕ). LastCount history (some b)) (states c) (λ b. (λ e. subst (λ (k : Option ℕ). LastCount history k) e last, λ l. one_last last l)) in (
        (λ e. g.0 (apart (color known (says c)) green (sym s ∙ e)), λ m. s ∙ ap of-color (g.1 m)),
        each_green (known_after known (says c)) (history ++ (says c ∷ [])) cs (known_is_last history known (says c) last) t,
      )
