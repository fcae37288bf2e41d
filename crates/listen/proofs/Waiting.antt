-- The claims of `specs/Waiting.antt`: what a row of calls can say, and that no call is late.
-- Assumes nothing.
use Prim.Native.Nat.{ℕ, zero, suc, ◌+◌, ◌^◌, ◌≤◌, ◌<◌}
use mathlib.Core.Path.{◌≡◌, refl, sym, ap, subst, ◌∙◌}
use mathlib.Core.Logic.{◌⊎◌, inl, inr}
use mathlib.Core.Bool.{Bool, true, false}
use mathlib.Core.Option.{Option, none, some}
use mathlib.Core.List.{List, [], ◌++◌, append-nil, append_assoc}
use native.Mathlib.Omega.{arith}
use lib.Dec.{eqb, ltb}
use lib.ListN.{length, drop, replicate, length-replicate}
use lib.Seq.{drop-append-le, drop-append-add, drop-length}
use borrow.Author.Tests.{le-ltb}
use Rattle.reader.specs.Lines.{through}
use Rattle.chunks.specs.Rows.{joined}
use Rattle.steps.specs.Aliases.{Loading}
use Rattle.steps.specs.Steps.{nothing_yet, Verdict, Decision, by, decision}
use Rattle.steps.specs.Source.{steps_of}
use Rattle.window.specs.Window.{unfit, within}
use Rattle.intake.specs.declared.Kind.{Kind}
use Rattle.intake.specs.declared.Intake.{Intake}
use Rattle.intake.specs.declared.Reply.{Reply}
use Rattle.intake.specs.declared.Reply.TheVariants as reply
use Rattle.intake.specs.Aliases.{Ending}
use Rattle.intake.specs.Ways.{way_of}
use Rattle.intake.specs.Intake.{new_tail, spoilt, Feeds}
use Rattle.intake.specs.Ending.{Finishes}
use Rattle.intake.specs.Rows.{no_chunk, cr_before, text_of, FirstEnd}
use Rattle.intake.proofs.Rows.{come_to, row_waits, row_carries}
use Rattle.intake.proofs.Tails as tails
use Rattle.listen.specs.declared.Blank.{Blank}
use Rattle.listen.specs.declared.Listener.{Listener}
use Rattle.listen.specs.declared.Listener.TheVariants.{Front, Within, Ready}
use Rattle.listen.specs.declared.Said.TheVariants.{WantsMore, Decided, Passed, CarryTooSmall}
use Rattle.listen.specs.declared.Step.{Step}
use Rattle.listen.specs.Listener.{blanks, begun, step_by, decided_by, end_by, too_small, FromFront, HearsSo, Tested, Hears, PausesSo}
use Rattle.listen.specs.Calls.{dump_in}
use Rattle.listen.specs.Waiting.{EighteenExactly, DumpSays, DumpWaits, TailSays, TailWaits}
use Rattle.listen.proofs.Blanks.{blanks_on, blanks_begun}
use Rattle.listen.proofs.Calls.{BlankSo, DumpSo, Come, come, fit_there, Passing, passing, tail_fit, tail_passes}
use Rattle.std.specs.Prelude.{None, Ok, Some}
use Rattle.steps.specs.Aliases.{refuse}
use Rattle.std.specs.Prelude.{Err}

-- ---- what a row can say

abbrev Says : Step → Type 0
Says r = (r.said ≡ WantsMore) ⊎ ((answer : Loading) × (r.said ≡ Decided answer))

-- a load replies 18 only if its carry does not fit it
module _ (s : Intake) (before whole : ℕ) (bytes carry : List ℕ) (first : ℕ) (stage stated carry' stage' stated' : List ℕ) (big : spoilt s carry ≡ false) (fit : unfit first (length stage) (length stated) ≡ false) where
  by_reply : (a : Reply) → Feeds s bytes carry first stage stated a carry' stage' stated' → s.tail ≡ false → Says (step_by s before whole a)
  by_reply (reply.WantsMore s') f e = inl refl
  by_reply (reply.Decided l used) f e = inr (l, ap (λ (t : Bool). (decided_by t s.kind l (before + used)).said) e)
  by_reply reply.CarryTooSmall f e = absurd (f.feeds big fit).0

  -- a load that passes over
  tail_by_reply : (a : Reply) → Feeds s bytes carry first stage stated a carry' stage' stated' → s.tail ≡ true
      → ((step_by s before whole a).said ≡ WantsMore) ⊎ (((step_by s before whole a).said ≡ Passed) ⊎ ((answer : Loading) × ((step_by s before whole a).said ≡ Decided answer)))
  tail_by_reply (reply.WantsMore s') f e = inl refl
  tail_by_reply (reply.Decided (Ok t) used) f e = inr (inl (ap (λ (b : Bool). (decided_by b s.kind (Ok t) (before + used)).said) e))
  tail_by_reply (reply.Decided (Err z) used) f e = inr (inr (refuse z.why z.line, ap (λ (b : Bool). (decided_by b s.kind (refuse z.why z.line) (before + used)).said) e))
  tail_by_reply reply.CarryTooSmall f e = absurd (f.feeds big fit).0

-- a new load fits a carry of 522 bytes
new_fits : (s : Intake) (carry : List ℕ) → s.used ≡ 0 → 522 ≤ length carry → spoilt s carry ≡ false
new_fits s carry e h = rw (e, le-ltb (length carry) 522 h)

-- ---- 18

-- a carry that fits is not refused with 18
module _ (chunk carry : List ℕ) (first : ℕ) (stage stated : List ℕ) (r : Step) (carry' stage' stated' : List ℕ) (told : r.said ≡ CarryTooSmall) where
  by_decided : (t : Bool) (kind : Kind) (l : Loading) (used : ℕ) → (decided_by t kind l used).said ≡ CarryTooSmall → ⊥
  by_decided true kind (Ok t) used e = let z : ◌≡◌ {A = ℕ} 0 1 = cc in absurd (omega arith)
  by_decided true kind (Err z) used e = let z : ◌≡◌ {A = ℕ} 0 1 = cc in absurd (omega arith)
  by_decided false kind l used e = let z : ◌≡◌ {A = ℕ} 0 1 = cc in absurd (omega arith)

  fed_unspoilt : (s : Intake) (before whole : ℕ) (bytes marks : List ℕ) → spoilt s carry ≡ false → unfit first (length stage) (length marks) ≡ false → (a : Reply)
      → Feeds s bytes carry first stage marks a carry' stage' stated' → r ≡ step_by s before whole a → ⊥
  fed_unspoilt s before whole bytes marks big fit (reply.WantsMore s') f e = let q = sym (ap (λ (z : Step). z.said) e) ∙ told in let z : ◌≡◌ {A = ℕ} 0 1 = cc in absurd (omega arith)
  fed_unspoilt s before whole bytes marks big fit (reply.Decided l used) f e = by_decided s.tail s.kind l (before + used) (sym (ap (λ (z : Step). z.said) e) ∙ told)
  fed_unspoilt s before whole bytes marks big fit reply.CarryTooSmall f e = (f.feeds big fit).0

  module _ (fit : unfit first (length stage) (length stated) ≡ false) where
    front_unspoilt : (kind : Kind) (cr : Bool) → ltb (length carry) 522 ≡ false → FromFront kind cr chunk carry first stage stated r carry' stage' stated' → ⊥
    front_unspoilt kind cr big f = go (eqb (blanks cr chunk).at (length chunk)) refl
      where
        go : (t : Bool) → eqb (blanks cr chunk).at (length chunk) ≡ t → ⊥
        go true e = let q = sym (ap (λ (z : Step). z.said) (f.empty e).0) ∙ told in let z : ◌≡◌ {A = ℕ} 0 1 = cc in absurd (omega arith)
        go false e =
            let g = f.dump e in
            let b = blanks cr chunk in
            let fits : unfit first (length stage) (length {A = ℕ} (replicate (length stated) 0)) ≡ false = ap (unfit first (length stage)) (length-replicate (length stated) 0) ∙ fit in
            fed_unspoilt (begun kind b.cr) b.at (length chunk) (drop b.at chunk) (replicate (length stated) 0) (rw big) fits g.reply g.feeds g.answer

    chunk_unspoilt : (l : Listener) → too_small l (length carry) ≡ false → HearsSo l chunk carry first stage stated r carry' stage' stated' → ⊥
    chunk_unspoilt (Front kind cr) big f = front_unspoilt kind cr big f
    chunk_unspoilt (Within s) big f = fed_unspoilt s 0 (length chunk) chunk stated big fit f.reply f.feeds f.answer
    chunk_unspoilt (Ready kind) big f = front_unspoilt kind false big f

    ended_unspoilt : (s : Intake) → spoilt s carry ≡ false → (e : Ending) → Finishes s carry first stage stated e carry' stage' stated' → r ≡ end_by s e → ⊥
    ended_unspoilt s big (Some l) f e = let q = sym (ap (λ (z : Step). z.said) e) ∙ told in let z : ◌≡◌ {A = ℕ} 0 1 = cc in absurd (omega arith)
    ended_unspoilt s big None f e = f.ends big fit

    pause_unspoilt : (l : Listener) → too_small l (length carry) ≡ false → PausesSo l carry first stage stated r carry' stage' stated' → ⊥
    pause_unspoilt (Front kind cr) big p = let q = sym (ap (λ (z : Step). z.said) p.answer) ∙ told in let z : ◌≡◌ {A = ℕ} 0 1 = cc in absurd (omega arith)
    pause_unspoilt (Ready kind) big p = let q = sym (ap (λ (z : Step). z.said) p.answer) ∙ told in let z : ◌≡◌ {A = ℕ} 0 1 = cc in absurd (omega arith)
    pause_unspoilt (Within s) big p = go s.tail refl
      where
        go : (t : Bool) → s.tail ≡ t → ⊥
        go true e = let q = sym (ap (λ (z : Step). z.said) (p.tail e).0) ∙ told in let z : ◌≡◌ {A = ℕ} 0 1 = cc in absurd (omega arith)
        go false e = let (x, f, is) = p.dump e in ended_unspoilt s big x f is

  -- by the tests
  tested_small : (l : Listener) (W : Type 0) → Tested (too_small l (length carry)) l carry first stage stated r carry' stage' stated' W
      → (unfit first (length stage) (length stated) ≡ false → too_small l (length carry) ≡ false → W → ⊥) → too_small l (length carry) ≡ true
  tested_small l W h never = go (too_small l (length carry)) refl (unfit first (length stage) (length stated)) refl
    where
      go : (t : Bool) → too_small l (length carry) ≡ t → (u : Bool) → unfit first (length stage) (length stated) ≡ u → too_small l (length carry) ≡ true
      go true e u f = e
      go false e true f = let q = sym (ap (λ (z : Step). z.said) (h.bad_window e f).answer) ∙ told in let z : ◌≡◌ {A = ℕ} 0 1 = cc in absurd (omega arith)
      go false e false f = absurd (never f e (h.else_so e f))

pub eighteen_exactly : EighteenExactly
eighteen_exactly l chunk carry first stage stated r carry' stage' stated' (inl h) = (
  λ told. tested_small chunk carry first stage stated r carry' stage' stated' told l _ h (λ fit big f. chunk_unspoilt chunk carry first stage stated r carry' stage' stated' told fit l big f),
  λ e. ap (λ (z : Step). z.said) (h.small e).answer,
)
eighteen_exactly l chunk carry first stage stated r carry' stage' stated' (inr p) = (
  λ told. tested_small chunk carry first stage stated r carry' stage' stated' told l _ p (λ fit big f. pause_unspoilt chunk carry first stage stated r carry' stage' stated' told fit l big f),
  λ e. ap (λ (z : Step). z.said) (p.small e).answer,
)

-- ---- what a row of a dump or a tail can say

module _ (kind : Kind) (cr : Bool) (first : ℕ) (carry₀ stage₀ stated₀ : List ℕ) (fit : unfit first (length stage₀) (length stated₀) ≡ false) (big : 522 ≤ length carry₀) where
  module _ (chunk : List ℕ) (r : Step) (carry' stage' stated' : List ℕ) where
    -- where no dump has begun
    front_says : (kind' : Kind) (waits : Bool) (carry stage stated : List ℕ) → 522 ≤ length carry → unfit first (length stage) (length {A = ℕ} (replicate (length stated) 0)) ≡ false
        → FromFront kind' waits chunk carry first stage stated r carry' stage' stated' → Says r
    front_says kind' waits carry stage stated enough fits f = go (eqb (blanks waits chunk).at (length chunk)) refl
      where
        go : (t : Bool) → eqb (blanks waits chunk).at (length chunk) ≡ t → Says r
        go true e = inl (ap (λ (z : Step). z.said) (f.empty e).0)
        go false e =
            let g = f.dump e in
            let b = blanks waits chunk in
            subst Says (sym g.answer)
            (by_reply (begun kind' b.cr) b.at (length chunk) (drop b.at chunk) carry first stage (replicate (length stated) 0) carry' stage' stated'
            (new_fits (begun kind' b.cr) carry refl enough) fits g.reply g.feeds refl)

    cleared_fit : (stage stated : List ℕ) → unfit first (length stage) (length stated) ≡ false → unfit first (length stage) (length {A = ℕ} (replicate (length stated) 0)) ≡ false
    cleared_fit stage stated e = ap (unfit first (length stage)) (length-replicate (length stated) 0) ∙ e

    says_there : (bytes : List ℕ) (l : Listener) (carry stage stated : List ℕ) → Come kind cr first carry₀ stage₀ stated₀ bytes l carry stage stated → unfit first (length stage) (length stated) ≡ false
        → Hears l chunk carry first stage stated r carry' stage' stated' → Says r
    says_there bytes (Front kind' waits) carry stage stated x fits h =
        let enough : 522 ≤ length carry = rw x.carry_is big in
        front_says kind' waits carry stage stated enough (cleared_fit stage stated fits) (h.else_so (le-ltb (length carry) 522 enough) fits)
    says_there bytes (Ready kind') carry stage stated x fits h =
        let enough : 522 ≤ length carry = rw x.carry_is big in
        front_says kind' false carry stage stated enough (cleared_fit stage stated fits) (h.else_so (le-ltb (length carry) 522 enough) fits)
    says_there bytes (Within s) carry stage stated x fits h =
        let row = x.row in
        let here = come_to kind false x.waits first carry₀ stage₀ (replicate (length stated₀) 0) (begun kind x.waits) refl x.chunks s carry stage stated row in
        let sound = row_carries first (begun kind x.waits) carry₀ stage₀ (replicate (length stated₀) 0) x.chunks s carry stage stated row (new_fits (begun kind x.waits) carry₀ refl big) in
        let g = h.else_so sound fits in
        subst Says (sym g.answer) (by_reply s 0 (length chunk) chunk carry first stage stated carry' stage' stated' sound fits g.reply g.feeds here.tail_is)

pub dump_says : DumpSays
dump_says kind cr first l₀ carry₀ stage₀ stated₀ b fit big bytes l carry stage stated row chunk r carry' stage' stated' h =
    let x = come kind cr first carry₀ stage₀ stated₀ fit b row in
    says_there kind cr first carry₀ stage₀ stated₀ fit big chunk r carry' stage' stated' bytes l carry stage stated x (fit_there kind cr first carry₀ stage₀ stated₀ fit bytes l carry stage stated x) h

module _ (kind : Kind) (first : ℕ) (carry₀ stage₀ stated₀ : List ℕ) (fit : unfit first (length stage₀) (length stated₀) ≡ false) (big : 522 ≤ length carry₀)
    (chunk : List ℕ) (r : Step) (carry' stage' stated' : List ℕ) (never : (answer : Loading) → r.said ≡ Decided answer → ⊥) where
  tail_says_there : (bytes : List ℕ) (l : Listener) (carry stage stated : List ℕ) → Passing kind first carry₀ stage₀ stated₀ fit bytes l carry stage stated
      → Hears l chunk carry first stage stated r carry' stage' stated' → (r.said ≡ WantsMore) ⊎ (r.said ≡ Passed)
  tail_says_there bytes (Front k c) carry stage stated x h = absurd x
  tail_says_there bytes (Ready k) carry stage stated x h = absurd x
  tail_says_there bytes (Within s) carry stage stated (chunks, row, whole) h =
      let here = come_to kind true false first carry₀ stage₀ stated₀ (new_tail kind) refl chunks s carry stage stated row in
      let sound = row_carries first (new_tail kind) carry₀ stage₀ stated₀ chunks s carry stage stated row (new_fits (new_tail kind) carry₀ refl big) in
      let fits = tail_fit kind first carry₀ stage₀ stated₀ fit s carry stage stated chunks row in
      let g = h.else_so sound fits in
      let is = ap (λ (z : Step). z.said) g.answer in
      go (step_by s 0 (length chunk) g.reply) is (tail_by_reply s 0 (length chunk) chunk carry first stage stated carry' stage' stated' sound fits g.reply g.feeds here.tail_is)
    where
      go : (z : Step) → r.said ≡ z.said → (z.said ≡ WantsMore) ⊎ ((z.said ≡ Passed) ⊎ ((answer : Loading) × (z.said ≡ Decided answer))) → (r.said ≡ WantsMore) ⊎ (r.said ≡ Passed)
      go z e (inl w) = inl (e ∙ w)
      go z e (inr (inl p)) = inr (e ∙ p)
      go z e (inr (inr (answer, d))) = absurd (never answer (e ∙ d))

pub tail_says : TailSays
tail_says kind first carry₀ stage₀ stated₀ fit big bytes l carry stage stated row chunk r carry' stage' stated' h short =
    let whole : bytes ++ chunk ≡ bytes ++ (chunk ++ []) = ap (λ (y : List ℕ). bytes ++ y) (sym (append-nil chunk)) in
    let (never, _) = tail_passes kind first carry₀ stage₀ stated₀ fit bytes l carry stage stated row chunk r carry' stage' stated' h [] (subst (λ (y : List ℕ). suc (length y) < 2 ^ 64) whole short) in
    tail_says_there kind first carry₀ stage₀ stated₀ fit big chunk r carry' stage' stated' never bytes l carry stage stated (passing kind first carry₀ stage₀ stated₀ fit row) h

-- ---- no call is late

-- a CR alone ends no line
no_LF : (n : ℕ) (text : List ℕ) → through n text ≡ none → (waits : Bool) → through n (cr_before waits) ≡ none
unfolding through
no_LF zero text e waits = let z : ◌≡◌ {A = ℕ} 0 1 = cc in absurd (omega arith)
no_LF (suc n) text e true = refl
no_LF (suc n) text e false = refl

short_cr : (cr : Bool) → suc (length (text_of cr [])) < 2 ^ 64
unfolding joined
short_cr true = omega arith
short_cr false = omega arith

module _ (kind : Kind) (cr : Bool) (first : ℕ) (carry₀ stage₀ stated₀ : List ℕ) where
  abbrev decided_at : (text : List ℕ) → Option Decision
  decided_at text = decision (within first (length stage₀)) nothing_yet (steps_of (way_of kind false).source text)

  front_waits : (bytes : List ℕ) (kind' : Kind) (waits : Bool) (carry stage stated : List ℕ) → BlankSo kind cr first carry₀ stage₀ stated₀ bytes kind' waits carry stage stated
      → (more : List ℕ) (n : ℕ) (v : Verdict) → decided_at (dump_in cr (bytes ++ more)) ≡ some (by n v) → through n (dump_in cr bytes) ≡ none
  unfolding joined
  front_waits bytes kind' waits carry stage stated x more n v d =
      let b = blanks waits more in
      let text : dump_in cr (bytes ++ more) ≡ text_of b.cr [] ++ drop b.at more =
      ap (λ (y : Blank). cr_before y.cr ++ drop y.at (bytes ++ more)) (blanks_on cr bytes more waits x.all_blank)
      ∙ ap (λ (y : List ℕ). cr_before b.cr ++ y) (drop-append-add bytes more b.at) ∙ ap (λ (y : List ℕ). y ++ drop b.at more) (sym (append-nil (cr_before b.cr))) in
      let here : dump_in cr bytes ≡ cr_before waits =
      ap (λ (y : Blank). cr_before y.cr ++ drop y.at bytes) x.all_blank ∙ ap (λ (y : List ℕ). cr_before waits ++ y) (drop-length bytes) ∙ append-nil (cr_before waits) in
      let started = begun kind b.cr in
      let nothing = row_waits kind false b.cr first carry₀ stage₀ (replicate (length stated₀) 0) started refl [] started carry₀ stage₀ (replicate (length stated₀) 0) no_chunk (drop b.at more)
      (short_cr b.cr) n v (ap decided_at (sym text) ∙ d) in
      ap (through n) here ∙ no_LF n (text_of b.cr []) nothing waits

  within_waits : (bytes : List ℕ) (s : Intake) (carry stage stated : List ℕ) → DumpSo kind cr first carry₀ stage₀ stated₀ bytes s carry stage stated
      → (more : List ℕ) → suc (length (dump_in cr bytes)) < 2 ^ 64 → (n : ℕ) (v : Verdict) → decided_at (dump_in cr (bytes ++ more)) ≡ some (by n v) → through n (dump_in cr bytes) ≡ none
  within_waits bytes s carry stage stated x more short n v d =
      let h = x.inside in
      let k : (blanks cr bytes).at < length bytes = rw x.begins h in
      let text : dump_in cr bytes ≡ text_of x.waits x.chunks =
      ap (λ (y : Blank). cr_before y.cr ++ drop y.at bytes) x.begins ∙ ap (λ (y : List ℕ). cr_before x.waits ++ y) (sym x.rest) in
      let whole : dump_in cr (bytes ++ more) ≡ text_of x.waits x.chunks ++ more =
      ap (λ (y : Blank). cr_before y.cr ++ drop y.at (bytes ++ more)) (blanks_begun cr bytes more k ∙ x.begins)
      ∙ ap (λ (y : List ℕ). cr_before x.waits ++ y) (drop-append-le x.at bytes more (omega arith) ∙ ap (λ (y : List ℕ). y ++ more) (sym x.rest))
      ∙ sym (append_assoc (cr_before x.waits) (joined x.chunks) more) in
      ap (through n) text
      ∙ row_waits kind false x.waits first carry₀ stage₀ (replicate (length stated₀) 0) (begun kind x.waits) refl x.chunks s carry stage stated x.row more
      (subst (λ (y : List ℕ). suc (length y) < 2 ^ 64) text short) n v (ap decided_at (sym whole) ∙ d)

  waits_there : (bytes : List ℕ) (l : Listener) (carry stage stated : List ℕ) → Come kind cr first carry₀ stage₀ stated₀ bytes l carry stage stated
      → (more : List ℕ) → suc (length (dump_in cr bytes)) < 2 ^ 64 → (n : ℕ) (v : Verdict) → decided_at (dump_in cr (bytes ++ more)) ≡ some (by n v) → through n (dump_in cr bytes) ≡ none
  waits_there bytes (Front kind' waits) carry stage stated x more short n v d = front_waits bytes kind' waits carry stage stated x more n v d
  waits_there bytes (Within s) carry stage stated x more short n v d = within_waits bytes s carry stage stated x more short n v d
  waits_there bytes (Ready kind') carry stage stated x more short n v d = front_waits bytes kind' false carry stage stated x more n v d

pub dump_waits : DumpWaits
dump_waits kind cr first l₀ carry₀ stage₀ stated₀ b fit bytes l carry stage stated row more short n v d =
    waits_there kind cr first carry₀ stage₀ stated₀ bytes l carry stage stated (come kind cr first carry₀ stage₀ stated₀ fit b row) more short n v d

pub tail_waits : TailWaits
tail_waits kind first carry₀ stage₀ stated₀ fit bytes l carry stage stated row more short n e = go l carry stage stated (passing kind first carry₀ stage₀ stated₀ fit row)
  where
    go : (l : Listener) (carry stage stated : List ℕ) → Passing kind first carry₀ stage₀ stated₀ fit bytes l carry stage stated → through n bytes ≡ none
    go (Front k c) carry stage stated x = absurd x
    go (Ready k) carry stage stated x = absurd x
    go (Within s) carry stage stated (chunks, row, whole) =
        ap (through n) (sym whole)
        ∙ tails.tail_waits kind false first carry₀ stage₀ stated₀ (new_tail kind) refl chunks s carry stage stated row more (subst (λ (y : List ℕ). suc (length y) < 2 ^ 64) (sym whole) short) n
        (subst (λ (y : List ℕ). FirstEnd kind (y ++ more) n) (sym whole) e)
