-- The colors of the light, from the history alone: what each dump says of the count, and nothing else. Document 02, wish 14. Each claim is proved in
-- `proofs/Colors.antt`.
-- Assumes nothing.
use Rattle.std.specs.Prelude.{◌≡◌, ℕ, ◌+◌, ◌-◌, ◌%◌, ◌<◌, ◌≤◌, ◌≢◌, ◌↔◌, List, [], ◌∷◌, ◌++◌, ◌==◌, nat_le}
use Rattle.std.proofs.Math.Option.{Option, none, some}
use Rattle.digits.specs.Common.{Every}
use Rattle.std.specs.Prelude.{if◌then◌else◌}

-- what the light shows after a dump
pub data Color : Type 0 where
  broken : Color
  no_count : Color
  first_seen : Color
  green : Color
  stale : Color
  restarted : Color

-- what a dump says: it is refused, it is accepted and states no count, or it is accepted and states one
pub data Outcome : Type 0 where
  refused_one : Outcome
  uncounted : Outcome
  counted : (count : ℕ) → Outcome

-- how far a count of 16 bits moved forward
abbrev pub forward : (before now : ℕ) → ℕ
forward before now = (now + 65536 - before) % 65536

-- a count, beside the one that was known: the first; the same; 1 to 32,767 ahead; or anything else
unfoldable pub compared : Option ℕ → (now : ℕ) → Color
compared none now = first_seen
compared (some before) now = let k = forward before now in if k == 0 then stale else if nat_le k 32767 then green else restarted

-- the color of a dump, by the count that was known
unfoldable pub color : Option ℕ → Outcome → Color
unfolding compared
color known refused_one = broken
color known uncounted = no_count
color known (counted count) = compared known count

-- the count that is known after it: a dump that states none forgets nothing, and neither does a refused one
abbrev pub known_after : Option ℕ → Outcome → Option ℕ
known_after known refused_one = known
known_after known uncounted = known
known_after known (counted count) = some count

-- ---- a history

-- the colors of a history, dump after dump, from a known count on
unfoldable pub colors : Option ℕ → List Outcome → List Color
unfolding color
colors known [] = []
colors known (o ∷ later) = color known o ∷ colors (known_after known o) later

-- the count that was stated last, said without computing: some dump states it, and none after it states one
pub data LastCount : List Outcome → Option ℕ → Type 0 where
  never : {history : List Outcome} → Every (λ (o : Outcome). (n : ℕ) → o ≢ counted n) history → LastCount history none
  this_one : (before : List Outcome) (n : ℕ) (after : List Outcome) → Every (λ (o : Outcome). (m : ℕ) → o ≢ counted m) after
      → LastCount (before ++ (counted n ∷ after)) (some n)

-- the color of a dump after a history, said without computing
pub data Shows (history : List Outcome) : Outcome → Color → Type 0 where
  is_broken : Shows history refused_one broken
  has_none : Shows history uncounted no_count
  is_first : (n : ℕ) → LastCount history none → Shows history (counted n) first_seen
  is_same : (n : ℕ) → LastCount history (some n) → Shows history (counted n) stale
  moved_forward : (before n k : ℕ) → LastCount history (some before) → 1 ≤ k → k ≤ 32767 → n ≡ (before + k) % 65536 → Shows history (counted n) green
  moved_else : (before n k : ℕ) → LastCount history (some before) → 32768 ≤ k → k < 65536 → n ≡ (before + k) % 65536 → Shows history (counted n) restarted

-- a count has 16 bits
abbrev pub Sixteen : Outcome → Type 0
Sixteen refused_one = Unit
Sixteen uncounted = Unit
Sixteen (counted n) = n < 65536

-- the definition shows that, after any history, and nothing else is shown
abbrev pub ShownSo : Type 0
ShownSo =
    (history : List Outcome) (o : Outcome) (known : Option ℕ) → Every Sixteen history → Sixteen o → LastCount history known → Shows history o (color known o)

abbrev pub ShownOnlySo : Type 0
ShownOnlySo =
    (history : List Outcome) (o : Outcome) (known : Option ℕ) (c : Color) → Every Sixteen history → Sixteen o → LastCount history known
    → Shows history o c → c ≡ color known o

-- what is known after a history is its last count
abbrev pub KnownIsLast : Type 0
KnownIsLast = (history : List Outcome) (known : Option ℕ) (o : Outcome) → LastCount history known → LastCount (history ++ (o ∷ [])) (known_after known o)

-- the same again is never green
abbrev pub NeverGreenAgain : Type 0
NeverGreenAgain = (known : Option ℕ) (o : Outcome) → color (known_after known o) o ≢ green

-- green, exactly: a count was known, and this one is 1 to 32,767 ahead of it
abbrev pub GreenExactly : Type 0
GreenExactly =
    (known : Option ℕ) (o : Outcome)
    → (color known o ≡ green)
    ↔ ((before : ℕ) × (now : ℕ) × (known ≡ some before) × (o ≡ counted now) × (1 ≤ forward before now) × (forward before now ≤ 32767))

pub record Examples : Type 0 where
  pub steps_of_one : color (some 5) (counted 6) ≡ green
  pub no_step : color (some 5) (counted 5) ≡ stale
  pub longest : color (some 0) (counted 32767) ≡ green
  pub too_long : color (some 0) (counted 32768) ≡ restarted
  pub back : color (some 1) (counted 0) ≡ restarted
  pub around : color (some 65535) (counted 0) ≡ green
  -- a dump without a count, and a broken one, forget nothing; a restart is remembered
  pub nothing_forgotten : colors none (counted 5 ∷ uncounted ∷ refused_one ∷ counted 5 ∷ counted 6 ∷ []) ≡ first_seen ∷ no_count ∷ broken ∷ stale ∷ green ∷ []
  pub remembered : colors (some 5) (counted 4 ∷ counted 4 ∷ []) ≡ restarted ∷ stale ∷ []
