-- No second reply, staging page or marks meets the contract of `feed`, and what a load of S-records keeps.
-- Assumes nothing.
use Rattle.std.proofs.Common.{◌≡◌, ℕ, ◌≤◌, Bool, true, false, List, length, take, drop, sym, refl, ap, ◌∙◌, ap₂, arith, length-drop, length-take-le}
use Rattle.std.specs.Prelude.{None}
use Rattle.marks.specs.Claims.{Bytes}
use Rattle.steps.specs.declared.Tally.{Tally as CodeTally}
use Rattle.chunks.specs.Begun.{Begun}
use Rattle.chunks.proofs.Calls.{fits}
use Rattle.steps.specs.Aliases.{Loading}
use Rattle.steps.specs.Steps.{Placement, Verdict}
use Rattle.steps.specs.Taken.{Standing}
use Rattle.steps.specs.Told.{told_loading}
use Rattle.steps.proofs.Told.{told_apart}
use Rattle.window.specs.Window.{unfit, window}
use Rattle.window.proofs.Taking.{painted_once}
use Rattle.intake.specs.declared.Intake.{Intake}
use Rattle.intake.specs.declared.Reply.{Reply}
use Rattle.intake.specs.declared.Reply.TheVariants.{WantsMore, Decided, CarryTooSmall}
use Rattle.intake.specs.Machine.{Fed, wants_more, decided}
use Rattle.intake.specs.Ways.{Way, way_of}
use Rattle.intake.specs.Helpers.{walk_of}
use Rattle.intake.specs.Intake.{begun_in, spoilt, FeedsBy, Unmoved, FeedsSo}
use Rattle.intake.specs.Claims.{SameCarry, SRecordsKeepTheBase, FeedUnique}
use Rattle.intake.proofs.Ways.{Lawful, lawful}
use Rattle.intake.proofs.Feeding.{same_tests}

-- ---- what the machine came to, taken apart

module _ {S : Type 0} (n n' : ℕ) where
  wants_apart : (st st' : Standing S) (b b' : Begun) → wants_more n st b ≡ wants_more n' st' b' → (n ≡ n') × (st ≡ st') × (b ≡ b')
  wants_apart st st' b b' e = (cc, cc, cc)

  decided_apart : (v v' : Verdict) (ps ps' : List Placement) (left left' : List ℕ) → ◌≡◌ {A = Fed S} (decided n v ps left) (decided n' v' ps' left') → (v ≡ v') × (ps ≡ ps') × (left ≡ left')
  decided_apart v v' ps ps' left left' e = (cc, cc, cc)

-- two states with the same fields
intake_is : (s s' : Intake) → s.kind ≡ s'.kind → s.tail ≡ s'.tail → s.line ≡ s'.line → s.used ≡ s'.used → s.skipped ≡ s'.skipped → s.cr ≡ s'.cr → s.base ≡ s'.base → s.tally ≡ s'.tally → s ≡ s'
intake_is s s' kind tail line used skipped cr base tally =
    let e : ◌≡◌ {A = Intake} (record { kind = s.kind; tail = s.tail; line = s.line; used = s.used; skipped = s.skipped; cr = s.cr; base = s.base; tally = s.tally }) (record { kind = s'.kind; tail = s'.tail; line = s'.line; used = s'.used; skipped = s'.skipped; cr = s'.cr; base = s'.base; tally = s'.tally }) = cc in
    e

-- a place in a list is known by what follows it
dropped_once : (n n' : ℕ) (bytes : List ℕ) → n ≤ length bytes → n' ≤ length bytes → drop n bytes ≡ drop n' bytes → n ≡ n'
dropped_once n n' bytes h h' e = let l = ap length e in omega (arith, length-drop n bytes, length-drop n' bytes, l)

-- ---- of a way

-- the reply, the staging page, the marks, and of the carry what is fixed
abbrev Once : (r r' : Reply) (c c' p p' m m' : List ℕ) → Type 0
Once r r' c c' p p' m m' = (r ≡ r') × (p ≡ p') × (m ≡ m') × SameCarry r c c'

module _ (way : Way) (law : Lawful way) (first : ℕ) (s₀ : Intake) (chunk carry stage stated : List ℕ) (big : 522 ≤ length carry) (bytes : Bytes stated) where
  abbrev FeedsTo : Reply → (c p m : List ℕ) → Type 0
  FeedsTo r c p m = FeedsBy way.source way.standing first s₀ chunk carry stage stated r c p m

  wants_once : (s s' : Intake) (c c' p p' m m' : List ℕ) → Unmoved way s₀ (WantsMore s) → Unmoved way s₀ (WantsMore s') → FeedsTo (WantsMore s) c p m → FeedsTo (WantsMore s') c' p' m'
      → Once (WantsMore s) (WantsMore s') c c' p p' m m'
  wants_once s s' c c' p p' m m' a a' x y =
      let (line, st, b) = wants_apart s.line s'.line _ _ (begun_in s c) (begun_in s' c') (sym x.comes_to ∙ y.comes_to) in
      let (base, tally, ps) = law.known s₀.base s₀.tally s.base s.tally s'.base s'.tally x.placements y.placements a a' st in
      let kept : take s.used c ≡ take s'.used c' = ap (λ (z : Begun). z.kept.bytes) b in
      let l = length-take-le s.used c (omega (arith, big, x.used_fits, x.carry_size)) in
      let l' = length-take-le s'.used c' (omega (arith, big, y.used_fits, y.carry_size)) in
      let used : s.used ≡ s'.used = sym l ∙ ap length kept ∙ l' in
      let (pages, rows) = painted_once (window first (length stage)) x.placements stage stated p p' m m' bytes x.paints (rw (sym ps) at y.paints) in (
        ap WantsMore (intake_is s s' (x.kind_is ∙ sym y.kind_is) (x.tail_is ∙ sym y.tail_is) line used (x.skipped_is ∙ ap (λ (z : Begun). z.kept.skipped) b ∙ sym y.skipped_is) (ap (λ (z : Begun). z.cr) b) base tally),
        pages,
        rows,
        kept ∙ ap (λ (n : ℕ). take n c') (sym used),
      )

  decides_once : (l l' : Loading) (used used' : ℕ) (c c' p p' m m' : List ℕ) → FeedsTo (Decided l used) c p m → FeedsTo (Decided l' used') c' p' m'
      → Once (Decided l used) (Decided l' used') c c' p p' m m'
  decides_once l l' used used' c c' p p' m m' x y =
      let (v, ps, left) = decided_apart x.line y.line (told_loading l) (told_loading l') x.placements y.placements (drop used chunk) (drop used' chunk) (sym x.comes_to ∙ y.comes_to) in
      let (pages, rows) = painted_once (window first (length stage)) x.placements stage stated p p' m m' bytes x.paints (rw (sym ps) at y.paints) in
      (ap₂ Decided (told_apart l l' v) (dropped_once used used' chunk x.used_fits y.used_fits left), pages, rows, tt)

  by_once : (r r' : Reply) (c c' p p' m m' : List ℕ) → Unmoved way s₀ r → Unmoved way s₀ r' → FeedsTo r c p m → FeedsTo r' c' p' m' → Once r r' c c' p p' m m'
  by_once (WantsMore s) (WantsMore s') c c' p p' m m' a a' x y = wants_once s s' c c' p p' m m' a a' x y
  by_once (WantsMore s) (Decided l used) c c' p p' m m' a a' x y = let e = sym x.comes_to ∙ y.comes_to in let z : ◌≡◌ {A = ℕ} 0 1 = cc in absurd (omega arith)
  by_once (Decided l used) (WantsMore s) c c' p p' m m' a a' x y = let e = sym x.comes_to ∙ y.comes_to in let z : ◌≡◌ {A = ℕ} 0 1 = cc in absurd (omega arith)
  by_once (Decided l used) (Decided l' used') c c' p p' m m' a a' x y = decides_once l l' used used' c c' p p' m m' x y
  by_once CarryTooSmall r c c' p p' m m' a a' x y = absurd x
  by_once (WantsMore s) CarryTooSmall c c' p p' m m' a a' x y = absurd y
  by_once (Decided l used) CarryTooSmall c c' p p' m m' a a' x y = absurd y

pub feed_unique : FeedUnique
feed_unique s chunk carry first stage stated r r' c c' p p' m m' bytes x y = go (spoilt s carry) refl (unfit first (length stage) (length stated)) refl
  where
    so : 522 ≤ length carry → FeedsSo (way_of s.kind s.tail) first s chunk carry stage stated r c p m → FeedsSo (way_of s.kind s.tail) first s chunk carry stage stated r' c' p' m'
        → Once r r' c c' p p' m m'
    so big (a, i) (b, j) = by_once (way_of s.kind s.tail) (lawful s.kind s.tail) first s chunk carry stage stated big bytes r r' c c' p p' m m' i j a b

    go : (t : Bool) → spoilt s carry ≡ t → (u : Bool) → unfit first (length stage) (length stated) ≡ u → Once r r' c c' p p' m m'
    go true e u f =
        let (a, b, d, g) = x.small e in
        let (a', b', d', g') = y.small e in
        rw (a, a', b, b', d, d', g, g') (refl, refl, refl, refl)
    go false e true f =
        let (a, _, d, g) = x.bad_window e f in
        let (a', _, d', g') = y.bad_window e f in
        rw (a, a', d, d', g, g') (refl, refl, refl, tt)
    go false e false f = so (fits (walk_of s).reader carry (sym (same_tests s carry) ∙ e)).0 (x.feeds e f) (y.feeds e f)

-- ---- a load of S-records, and no tail

pub s_records_keep_the_base : SRecordsKeepTheBase
s_records_keep_the_base s s' chunk carry first stage stated c p m kind tail x = go (spoilt s carry) refl (unfit first (length stage) (length stated)) refl
  where
    so : FeedsSo (way_of s.kind s.tail) first s chunk carry stage stated (WantsMore s') c p m → (s'.base ≡ s.base) × (s'.tally.start ≡ None)
    so f =
        let k = rw (kind, tail) at f in
        (k.1.0, sym (ap (λ (t : CodeTally). t.start) k.1.1))

    go : (t : Bool) → spoilt s carry ≡ t → (u : Bool) → unfit first (length stage) (length stated) ≡ u → (s'.base ≡ s.base) × (s'.tally.start ≡ None)
    go true e u f = let a = (x.small e).0 in let z : ◌≡◌ {A = ℕ} 0 1 = cc in absurd (omega arith)
    go false e true f = let a = (x.bad_window e f).0 in let z : ◌≡◌ {A = ℕ} 0 1 = cc in absurd (omega arith)
    go false e false f = so (x.feeds e f)
