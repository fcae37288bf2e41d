-- No second answer meets a contract of the listener.
-- Assumes nothing.
use Prim.Native.Nat.{ℕ}
use mathlib.Core.Path.{◌≡◌, refl, sym, ap, subst, ◌∙◌}
use mathlib.Core.Bool.{Bool, true, false}
use mathlib.Core.List.{List}
use native.Mathlib.Omega.{arith}
use lib.Dec.{eqb}
use lib.ListN.{length, drop, replicate}
use Rattle.marks.specs.Claims.{Bytes}
use Rattle.marks.proofs.Rows.{zeros_bytes}
use Rattle.steps.specs.Aliases.{Loading}
use Rattle.window.specs.Window.{unfit}
use Rattle.commit.proofs.Claims as committing
use Rattle.intake.specs.declared.Kind.{Kind}
use Rattle.intake.specs.declared.Intake.{Intake}
use Rattle.intake.specs.declared.Reply.{Reply}
use Rattle.intake.specs.declared.Reply.TheVariants as reply
use Rattle.intake.specs.Aliases.{Ending}
use Rattle.intake.specs.Claims as intake
use Rattle.intake.specs.Intake.{spoilt}
use Rattle.intake.specs.Ending.{Finishes}
use Rattle.intake.proofs.Unique as feeding
use Rattle.intake.proofs.Finishing as finishing
use Rattle.listen.specs.declared.Listener.{Listener}
use Rattle.listen.specs.declared.Listener.TheVariants.{Front, Within, Ready}
use Rattle.listen.specs.declared.Said.{Said}
use Rattle.listen.specs.declared.Step.{Step}
use Rattle.listen.specs.Aliases.{Committed}
use Rattle.listen.specs.Listener.{blanks, begun, step_by, decided_by, end_by, too_small, FedTo, FromFront, HearsSo, Unread, Tested, PausesWithin, PausesSo, commit_by, Commits}
use Rattle.listen.specs.Answers.{BeginUnique, SameCarry, OneStep, FeedUnique, PauseUnique, CommitUnique}
use Rattle.std.specs.Prelude.{None, Ok, Some}
use Rattle.std.specs.Prelude.{Err}

pub begin_unique : BeginUnique
begin_unique kind known r r' x y = x.answer ∙ sym y.answer

-- ---- by the tests

-- what a step leaves of the carry
abbrev Carried : Step → (c c' : List ℕ) → Type 0
Carried r c c' = SameCarry r.said r.listener c c'

unread_once : (l : Listener) (said : Said) (carry stage stated : List ℕ) (r r' : Step) (c c' p p' m m' : List ℕ) → ((x y : List ℕ) → x ≡ y → SameCarry said l x y)
    → Unread l said carry stage stated r c p m → Unread l said carry stage stated r' c' p' m' → OneStep r r' c c' p p' m m'
unread_once l said carry stage stated r r' c c' p p' m m' same x y =
    (x.answer ∙ sym y.answer, x.stage_is ∙ sym y.stage_is, x.stated_is ∙ sym y.stated_is, subst (λ (z : Step). Carried z c c') (sym x.answer) (same c c' (x.carry_is ∙ sym y.carry_is)))

module _ (t : Bool) (l : Listener) (carry : List ℕ) (first : ℕ) (stage stated : List ℕ) (r r' : Step) (c c' p p' m m' : List ℕ) (W W' : Type 0)
    (once : t ≡ false → unfit first (length stage) (length stated) ≡ false → W → W' → OneStep r r' c c' p p' m m') where
  tested_once : Tested t l carry first stage stated r c p m W → Tested t l carry first stage stated r' c' p' m' W' → OneStep r r' c c' p p' m m'
  tested_once x y = go t refl (unfit first (length stage) (length stated)) refl
    where
      go : (a : Bool) → t ≡ a → (u : Bool) → unfit first (length stage) (length stated) ≡ u → OneStep r r' c c' p p' m m'
      go true e u f = unread_once l _ carry stage stated r r' c c' p p' m m' (λ _ _ g. g) (x.small e) (y.small e)
      go false e true f = unread_once l _ carry stage stated r r' c c' p p' m m' (λ _ _ g. tt) (x.bad_window e f) (y.bad_window e f)
      go false e false f = once e f (x.else_so e f) (y.else_so e f)

-- ---- a chunk

-- where a load has decided, the carry may hold anything
carried_decided : (tail : Bool) (kind : Kind) (l : Loading) (used : ℕ) (c c' : List ℕ) → Carried (decided_by tail kind l used) c c'
carried_decided true kind (Ok t) used c c' = tt
carried_decided true kind (Err z) used c c' = tt
carried_decided false kind l used c c' = tt

carried_by : (s : Intake) (before whole : ℕ) (a : Reply) (c c' : List ℕ) → intake.SameCarry a c c' → Carried (step_by s before whole a) c c'
carried_by s before whole (reply.WantsMore s') c c' h = h
carried_by s before whole (reply.Decided l used) c c' h = carried_decided s.tail s.kind l _ c c'
carried_by s before whole reply.CarryTooSmall c c' h = h

module _ (first : ℕ) (stage : List ℕ) (r r' : Step) (c c' p p' m m' : List ℕ) where
  fed_once : (s : Intake) (before whole : ℕ) (bytes carry stated : List ℕ) → Bytes stated → FedTo s before whole bytes carry first stage stated r c p m
      → FedTo s before whole bytes carry first stage stated r' c' p' m' → OneStep r r' c c' p p' m m'
  fed_once s before whole bytes carry stated few x y =
      let (a, q, n, k) = feeding.feed_unique s bytes carry first stage stated x.reply y.reply c c' p p' m m' few x.feeds y.feeds in
      (x.answer ∙ ap (step_by s before whole) a ∙ sym y.answer, q, n, subst (λ (z : Step). Carried z c c') (sym x.answer) (carried_by s before whole x.reply c c' k))

  front_once : (kind : Kind) (cr : Bool) (chunk carry stated : List ℕ) → FromFront kind cr chunk carry first stage stated r c p m
      → FromFront kind cr chunk carry first stage stated r' c' p' m' → OneStep r r' c c' p p' m m'
  front_once kind cr chunk carry stated x y = go (eqb (blanks cr chunk).at (length chunk)) refl
    where
      go : (t : Bool) → eqb (blanks cr chunk).at (length chunk) ≡ t → OneStep r r' c c' p p' m m'
      go true e =
          let (a, k, q, n) = x.empty e in
          let (a', k', q', n') = y.empty e in
          (a ∙ sym a', q ∙ sym q', n ∙ sym n', subst (λ (z : Step). Carried z c c') (sym a) (k ∙ sym k'))
      go false e =
          fed_once (begun kind (blanks cr chunk).cr) (blanks cr chunk).at (length chunk) (drop (blanks cr chunk).at chunk) carry (replicate (length stated) 0) (zeros_bytes (length stated))
          (x.dump e) (y.dump e)

  hears_once : (l : Listener) (chunk carry stated : List ℕ) → Bytes stated → HearsSo l chunk carry first stage stated r c p m → HearsSo l chunk carry first stage stated r' c' p' m'
      → OneStep r r' c c' p p' m m'
  hears_once (Front kind cr) chunk carry stated few x y = front_once kind cr chunk carry stated x y
  hears_once (Within s) chunk carry stated few x y = fed_once s 0 (length chunk) chunk carry stated few x y
  hears_once (Ready kind) chunk carry stated few x y = front_once kind false chunk carry stated x y

pub feed_unique : FeedUnique
feed_unique l chunk carry first stage stated r r' c c' p p' m m' few x y =
    tested_once (too_small l (length carry)) l carry first stage stated r r' c c' p p' m m' _ _ (λ _ _. hears_once first stage r r' c c' p p' m m' l chunk carry stated few) x y

-- ---- a pause

module _ (first : ℕ) (stage : List ℕ) (r r' : Step) (c c' p p' m m' : List ℕ) (carry stated : List ℕ) (few : Bytes stated) where
  -- a load that has ended leaves anything in the carry, unless it was too small
  carried_end : (s : Intake) → spoilt s carry ≡ false → (e : Ending) → Finishes s carry first stage stated e c p m → Carried (end_by s e) c c'
  carried_end s big (Some l) f = tt
  carried_end s big None f = go (unfit first (length stage) (length stated)) refl
    where
      go : (u : Bool) → unfit first (length stage) (length stated) ≡ u → c ≡ c'
      go true u = let h = (f.bad_window big u).0 in let z : ◌≡◌ {A = ℕ} 0 1 = cc in absurd (omega arith)
      go false u = absurd (f.ends big u)

  within_once : (s : Intake) → spoilt s carry ≡ false → PausesWithin s carry first stage stated r c p m → PausesWithin s carry first stage stated r' c' p' m' → OneStep r r' c c' p p' m m'
  within_once s big x y = go s.tail refl
    where
      go : (t : Bool) → s.tail ≡ t → OneStep r r' c c' p p' m m'
      go true e =
          let (a, k, q, n) = x.tail e in
          let (a', k', q', n') = y.tail e in
          (a ∙ sym a', q ∙ sym q', n ∙ sym n', subst (λ (z : Step). Carried z c c') (sym a) (k ∙ sym k'))
      go false e =
          let (d, f, a) = x.dump e in
          let (d', f', a') = y.dump e in
          let (same, q, n, _) = finishing.finish_unique s carry first stage stated d d' c c' p p' m m' few f f' in
          (a ∙ ap (end_by s) same ∙ sym a', q, n, subst (λ (z : Step). Carried z c c') (sym a) (carried_end s big d f))

  pauses_once : (l : Listener) → too_small l (length carry) ≡ false → PausesSo l carry first stage stated r c p m → PausesSo l carry first stage stated r' c' p' m' → OneStep r r' c c' p p' m m'
  pauses_once (Front kind cr) big x y = unread_once (Front kind false) _ carry stage stated r r' c c' p p' m m' (λ _ _ g. g) x y
  pauses_once (Within s) big x y = within_once s big x y
  pauses_once (Ready kind) big x y = unread_once (Ready kind) _ carry stage stated r r' c c' p p' m m' (λ _ _ g. g) x y

pub pause_unique : PauseUnique
pause_unique l carry first stage stated r r' c c' p p' m m' few x y =
    tested_once (too_small l (length carry)) l carry first stage stated r r' c c' p p' m m' _ _ (λ big _. pauses_once first stage r r' c c' p p' m m' carry stated few l big) x y

-- ---- a commit

commits_once : (l : Listener) (stage stated page marks : List ℕ) (r r' : Committed) (p p' m m' : List ℕ) → Commits l stage stated page marks r p m
    → Commits l stage stated page marks r' p' m' → (r ≡ r') × (p ≡ p') × (m ≡ m')
commits_once (Front kind cr) stage stated page marks r r' p p' m m' x y = (x.answer ∙ sym y.answer, x.page_is ∙ sym y.page_is, x.marks_are ∙ sym y.marks_are)
commits_once (Within s) stage stated page marks r r' p p' m m' x y = (x.answer ∙ sym y.answer, x.page_is ∙ sym y.page_is, x.marks_are ∙ sym y.marks_are)
commits_once (Ready kind) stage stated page marks r r' p p' m m' x y =
    let (f, q, n) = committing.commit_unique stage stated page marks x.fits y.fits p p' m m' x.commits y.commits in
    (x.answer ∙ ap (commit_by kind) f ∙ sym y.answer, q, n)

pub commit_unique : CommitUnique
commit_unique l stage stated page marks r r' p p' m m' x y = commits_once l stage stated page marks r r' p p' m m' x y
