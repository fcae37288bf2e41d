-- The colors of a history: the count that is known is the last one, and how far a count moved says which color it is.
-- Assumes nothing.
use Rattle.std.proofs.Common.{◌≡◌, ℕ, ◌<◌, ◌≤◌, Bool, true, false, eqb, leb, ◌≢◌, List, [], ◌∷◌, ◌++◌, sym, refl, ◌∙◌, subst, append_assoc, arith, eq-eqb, eqb-true, leb-false, leb-true}
use mathlib.Core.Option.{Option, none, some}
use borrow.Author.Tests.{eqb-false}
use Rattle.digits.specs.Common.{or_else, Every}
use Rattle.std.specs.Prelude.{if◌then◌else◌}
use Rattle.steps.proofs.Firsts.{every_at}
use Rattle.light.specs.Colors.{Color, green, stale, restarted, Outcome, refused_one, uncounted, counted, forward, compared, color, known_after, colors, LastCount, never, this_one, Shows, is_broken, has_none, is_first, is_same, moved_forward, moved_else, Sixteen, ShownSo, ShownOnlySo, KnownIsLast, NeverGreenAgain, GreenExactly, Examples}

-- ---- the last count

-- by a walk: a later one, if there is one, and else this one's
last_of : List Outcome → Option ℕ
last_of [] = none
last_of (o ∷ later) = or_else (last_of later) (known_after none o)

abbrev NoCount : Outcome → Type 0
NoCount o = (n : ℕ) → o ≢ counted n

none_of : (history : List Outcome) → Every NoCount history → last_of history ≡ none
unfolding last_of
none_of [] h = refl
none_of (refused_one ∷ later) (h, hs) = rw (none_of later hs)
none_of (uncounted ∷ later) (h, hs) = rw (none_of later hs)
none_of (counted n ∷ later) (h, hs) = absurd (h n refl)

one_of : (before : List Outcome) (n : ℕ) (after : List Outcome) → Every NoCount after → last_of (before ++ (counted n ∷ after)) ≡ some n
unfolding last_of
one_of [] n after h = rw (none_of after h)
one_of (o ∷ before) n after h = rw (one_of before n after h)

is_last : {history : List Outcome} {known : Option ℕ} → LastCount history known → known ≡ last_of history
is_last {history} (never h) = sym (none_of history h)
is_last (this_one before n after h) = sym (one_of before n after h)

pub one_last : {history : List Outcome} {a b : Option ℕ} → LastCount history a → LastCount history b → a ≡ b
one_last x y = is_last x ∙ sym (is_last y)

pub every_joined : {A : Type 0} (P : A → Type 0) (xs ys : List A) → Every P xs → Every P ys → Every P (xs ++ ys)
every_joined P [] ys h k = k
every_joined P (x ∷ xs) ys (h, hs) k = (h, every_joined P xs ys hs k)

-- a dump that states no count leaves the last one
still : {history : List Outcome} {known : Option ℕ} (o : Outcome) → NoCount o → LastCount history known → LastCount (history ++ (o ∷ [])) known
still {history} o without (never h) = never (every_joined NoCount history (o ∷ []) h (without, tt))
still o without (this_one before n after h) = rw append_assoc (this_one before n (after ++ (o ∷ [])) (every_joined NoCount after (o ∷ []) h (without, tt)))

pub known_is_last : KnownIsLast
known_is_last history known refused_one l = still refused_one (λ n e. let z : ◌≡◌ {A = ℕ} 0 1 = cc in omega arith) l
known_is_last history known uncounted l = still uncounted (λ n e. let z : ◌≡◌ {A = ℕ} 0 1 = cc in omega arith) l
known_is_last history known (counted n) l = this_one history n [] tt

-- the last count has 16 bits
low : {history : List Outcome} (n : ℕ) → Every Sixteen history → LastCount history (some n) → n < 65536
low n h l = go l refl h
  where
    go : {history : List Outcome} {known : Option ℕ} → LastCount history known → known ≡ some n → Every Sixteen history → n < 65536
    go (never e) q s = let z : ◌≡◌ {A = ℕ} 0 1 = cc in absurd (omega arith)
    go (this_one before m after e) q s = let is : m ≡ n = cc in rw (← is) (every_at Sixteen before (counted m) after s)

-- ---- one color

-- what each distance comes to
module _ (before now : ℕ) where
  pub at_zero : forward before now ≡ 0 → compared (some before) now ≡ stale
  unfolding compared
  at_zero e = rw (eq-eqb (forward before now) 0 e)

  pub at_little : 1 ≤ forward before now → forward before now ≤ 32767 → compared (some before) now ≡ green
  unfolding compared
  at_little a b = go (eqb (forward before now) 0) refl (leb (forward before now) 32767) refl
    where
      go : (x : Bool) → eqb (forward before now) 0 ≡ x → (y : Bool) → leb (forward before now) 32767 ≡ y → (if x then stale else if y then green else restarted) ≡ green
      go true p y q = let e = eqb-true (forward before now) 0 p in absurd (omega arith)
      go false p true q = refl
      go false p false q = let e = leb-false (forward before now) 32767 q in absurd (omega arith)

  pub at_much : 32768 ≤ forward before now → compared (some before) now ≡ restarted
  unfolding compared
  at_much a = go (eqb (forward before now) 0) refl (leb (forward before now) 32767) refl
    where
      go : (x : Bool) → eqb (forward before now) 0 ≡ x → (y : Bool) → leb (forward before now) 32767 ≡ y → (if x then stale else if y then green else restarted) ≡ restarted
      go true p y q = let e = eqb-true (forward before now) 0 p in absurd (omega arith)
      go false p true q = let e = leb-true (forward before now) 32767 q in absurd (omega arith)
      go false p false q = refl

  -- and each color from which it comes
  pub is_green : compared (some before) now ≡ green → (1 ≤ forward before now) × (forward before now ≤ 32767)
  unfolding compared
  is_green = go (eqb (forward before now) 0) refl (leb (forward before now) 32767) refl
    where
      positive : (k : ℕ) → ¬ (k ≡ 0) → 1 ≤ k
      positive k n = omega arith

      go : (x : Bool) → eqb (forward before now) 0 ≡ x → (y : Bool) → leb (forward before now) 32767 ≡ y → (if x then stale else if y then green else restarted) ≡ green
          → (1 ≤ forward before now) × (forward before now ≤ 32767)
      go true p y q e = let z : ◌≡◌ {A = ℕ} 0 1 = cc in absurd (omega arith)
      go false p true q e = (positive (forward before now) (eqb-false (forward before now) 0 p), leb-true (forward before now) 32767 q)
      go false p false q e = let z : ◌≡◌ {A = ℕ} 0 1 = cc in absurd (omega arith)

pub never_green_again : NeverGreenAgain
unfolding color
never_green_again known refused_one e = let z : ◌≡◌ {A = ℕ} 0 1 = cc in omega arith
never_green_again known uncounted e = let z : ◌≡◌ {A = ℕ} 0 1 = cc in omega arith
never_green_again known (counted n) e = let s : stale ≡ green = sym (at_zero n n (omega arith)) ∙ e in let z : ◌≡◌ {A = ℕ} 0 1 = cc in omega arith

pub green_exactly : GreenExactly
unfolding color compared
green_exactly known refused_one = (λ e. let z : ◌≡◌ {A = ℕ} 0 1 = cc in absurd (omega arith), λ (b, n, k, o, a, f). let z : ◌≡◌ {A = ℕ} 0 1 = cc in absurd (omega arith))
green_exactly known uncounted = (λ e. let z : ◌≡◌ {A = ℕ} 0 1 = cc in absurd (omega arith), λ (b, n, k, o, a, f). let z : ◌≡◌ {A = ℕ} 0 1 = cc in absurd (omega arith))
green_exactly none (counted now) = (λ e. let z : ◌≡◌ {A = ℕ} 0 1 = cc in absurd (omega arith), λ (b, n, k, o, a, f). let z : ◌≡◌ {A = ℕ} 0 1 = cc in absurd (omega arith))
green_exactly (some before) (counted now) =
    (λ e. let (a, f) = is_green before now e in (before, now, refl, refl, a, f), λ (b, n, k, o, a, f). back b n k o a f)
  where
    back : (b n : ℕ) → some before ≡ some b → counted now ≡ counted n → 1 ≤ forward b n → forward b n ≤ 32767 → compared (some before) now ≡ green
    back b n k o a f = let x : before ≡ b = cc in let y : now ≡ n = cc in rw (x, y) (at_little b n a f)

-- ---- what is shown

pub shown_so : ShownSo
unfolding color compared
shown_so history refused_one known h s l = is_broken
shown_so history uncounted known h s l = has_none
shown_so history (counted n) none h s l = is_first n l
shown_so history (counted n) (some before) h s l = go (eqb (forward before n) 0) refl (leb (forward before n) 32767) refl
  where
    go : (x : Bool) → eqb (forward before n) 0 ≡ x → (y : Bool) → leb (forward before n) 32767 ≡ y → Shows history (counted n) (if x then stale else if y then green else restarted)
    go true p y q =
        let e = eqb-true (forward before n) 0 p in
        let b = low before h l in
        let same : before ≡ n = omega arith in
        is_same n (subst (λ (k : ℕ). LastCount history (some k)) same l)
    go false p true q =
        let ne = eqb-false (forward before n) 0 p in
        let b = low before h l in
        moved_forward before n (forward before n) l (omega (arith, ne)) (leb-true (forward before n) 32767 q) (omega arith)
    go false p false q =
        let e = leb-false (forward before n) 32767 q in
        let b = low before h l in
        moved_else before n (forward before n) l (omega arith) (omega arith) (omega arith)

pub shown_only_so : ShownOnlySo
unfolding color compared
shown_only_so history o known c h s l x = go x s
  where
    go : {o : Outcome} {c : Color} → Shows history o c → Sixteen o → c ≡ color known o
    go is_broken s = refl
    go has_none s = refl
    go (is_first n m) s = let e : known ≡ none = one_last l m in rw e
    go (is_same n m) s = let e : known ≡ some n = one_last l m in rw e (sym (at_zero n n (omega arith)))
    go (moved_forward before n k m a b q) s =
        let e : known ≡ some before = one_last l m in
        let lo = low before h m in
        rw e (sym (at_little before n (omega arith) (omega arith)))
    go (moved_else before n k m a b q) s =
        let e : known ≡ some before = one_last l m in
        let lo = low before h m in
        rw e (sym (at_much before n (omega arith)))

pub examples : Examples
unfolding color compared colors
examples = record { steps_of_one = refl; no_step = refl; longest = refl; too_long = refl; back = refl; around = refl; nothing_forgotten = refl; remembered = refl }
