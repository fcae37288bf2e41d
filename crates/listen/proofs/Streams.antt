-- Call after call on a stream: what was decided is what listening says first of its lines.
-- Assumes nothing.
use Prim.Native.Nat.{ℕ, suc, ◌+◌, ◌^◌, ◌<◌, ◌≤◌}
use mathlib.Core.Path.{◌≡◌, refl, sym, ap, subst, ◌∙◌}
use mathlib.Core.Bool.{Bool, true, false}
use mathlib.Core.List.{List, [], ◌∷◌, ◌++◌, map, map-append, append_assoc}
use native.Mathlib.Omega.{arith}
use lib.Dec.{eqb}
use lib.ListN.{length, drop, replicate, length-append, length-drop, length-replicate}
use lib.Seq.{drop-length}
use Rattle.digits.proofs.Tests.{if_true, if_false}
use Rattle.reader.specs.Lines.{lines}
use Rattle.steps.specs.Aliases.{Loading}
use Rattle.steps.specs.Steps.{Verdict, stated as stated-in}
use Rattle.steps.specs.Source.{Source, steps_of}
use Rattle.steps.specs.Told.{told_loading}
use Rattle.steps.proofs.Places.{length_painted}
use Rattle.window.specs.Window.{unfit, within, window}
use Rattle.intake.specs.declared.Kind.{Kind}
use Rattle.intake.specs.declared.Intake.{Intake}
use Rattle.intake.specs.declared.Reply.{Reply}
use Rattle.intake.specs.declared.Reply.TheVariants as reply
use Rattle.intake.specs.Ways.{Way, way_of}
use Rattle.intake.specs.Intake.{spoilt, Feeds, FeedsSo, new_tail}
use Rattle.intake.specs.Rows.{cr_before}
use Rattle.intake.proofs.Rows.{come_to}
use Rattle.listen.specs.declared.Listener.{Listener}
use Rattle.listen.specs.declared.Listener.TheVariants.{Front, Within, Ready}
use Rattle.listen.specs.declared.Said.TheVariants.{WantsMore, Decided, Passed, CarryTooSmall}
use Rattle.listen.specs.declared.Step.{Step}
use Rattle.listen.specs.declared.Blank.{Blank}
use Rattle.listen.specs.Listen.{Mode, front, skipping, Saying, said, reaching, mode_after, Listened, first as saying-first, listen}
use Rattle.listen.specs.Listener.{begins, is_blank, blanks, begun, step_by, decided_by, after, too_small, FromFront, HearsSo, Hears, commit_by, Commits}
use Rattle.listen.specs.Calls.{Listens, BeginsText, dump_in, Calls, no_call, wanting, deciding, passing, committing, verdict_of, first_mode, CallsListen}
use Rattle.listen.specs.Calls as calls
use Rattle.listen.proofs.Calls.{wanted, Come, come, fit_there, Passing, dump_decides, tail_passes}
use Rattle.listen.proofs.Calls as rows
use Rattle.listen.proofs.Heard.{dump_is_heard, tail_is_heard}
use Rattle.std.specs.Prelude.{Ok}
use Rattle.std.specs.Prelude.{Err}

-- ---- sizes

-- a load keeps the lengths of staging page and marks
feeds_sizes : (s : Intake) (chunk carry : List ℕ) (first : ℕ) (stage stated : List ℕ) (a : Reply) (carry' stage' stated' : List ℕ) → Feeds s chunk carry first stage stated a carry' stage' stated'
    → (length stage' ≡ length stage) × (length stated' ≡ length stated)
feeds_sizes s chunk carry first stage stated a carry' stage' stated' x = go (spoilt s carry) refl (unfit first (length stage) (length stated)) refl
  where
    sizes : (way : Way) (y : Reply) → FeedsSo way first s chunk carry stage stated y carry' stage' stated' → (length stage' ≡ length stage) × (length stated' ≡ length stated)
    sizes way (reply.WantsMore s') f = (ap length f.0.paints.page ∙ length_painted (window first (length stage)) f.0.placements 0 stage, f.0.paints.row.same_length)
    sizes way (reply.Decided l used) f = (ap length f.0.paints.page ∙ length_painted (window first (length stage)) f.0.placements 0 stage, f.0.paints.row.same_length)
    sizes way reply.CarryTooSmall f = absurd f.0

    go : (t : Bool) → spoilt s carry ≡ t → (u : Bool) → unfit first (length stage) (length stated) ≡ u → (length stage' ≡ length stage) × (length stated' ≡ length stated)
    go true e u f = let (_, _, p, m) = x.small e in (ap length p, ap length m)
    go false e true f = let (_, _, p, m) = x.bad_window e f in (ap length p, ap length m)
    go false e false f = sizes (way_of s.kind s.tail) a (x.feeds e f)

hears_sizes : (l : Listener) (chunk carry : List ℕ) (first : ℕ) (stage stated : List ℕ) (r : Step) (carry' stage' stated' : List ℕ) → Hears l chunk carry first stage stated r carry' stage' stated'
    → (length stage' ≡ length stage) × (length stated' ≡ length stated)
hears_sizes l chunk carry first stage stated r carry' stage' stated' h = go (too_small l (length carry)) refl (unfit first (length stage) (length stated)) refl
  where
    at_front : (kind : Kind) (cr : Bool) → FromFront kind cr chunk carry first stage stated r carry' stage' stated' → (length stage' ≡ length stage) × (length stated' ≡ length stated)
    at_front kind cr f = by (eqb (blanks cr chunk).at (length chunk)) refl
      where
        by : (t : Bool) → eqb (blanks cr chunk).at (length chunk) ≡ t → (length stage' ≡ length stage) × (length stated' ≡ length stated)
        by true e = let (_, _, p, m) = f.empty e in (ap length p, ap length m)
        by false e =
            let g = f.dump e in
            let (p, m) = feeds_sizes (begun kind (blanks cr chunk).cr) (drop (blanks cr chunk).at chunk) carry first stage (replicate (length stated) 0) g.reply carry' stage' stated' g.feeds in
            (p, m ∙ length-replicate (length stated) 0)

    so : (l : Listener) → HearsSo l chunk carry first stage stated r carry' stage' stated' → (length stage' ≡ length stage) × (length stated' ≡ length stated)
    so (Front kind cr) f = at_front kind cr f
    so (Within s) f = feeds_sizes s chunk carry first stage stated f.reply carry' stage' stated' f.feeds
    so (Ready kind) f = at_front kind false f

    go : (t : Bool) → too_small l (length carry) ≡ t → (u : Bool) → unfit first (length stage) (length stated) ≡ u → (length stage' ≡ length stage) × (length stated' ≡ length stated)
    go true e u f = (ap length (h.small e).stage_is, ap length (h.small e).stated_is)
    go false e true f = (ap length (h.bad_window e f).stage_is, ap length (h.bad_window e f).stated_is)
    go false e false f = so l (h.else_so e f)

-- ---- what a step says

-- where more is wanted the chunk is used up
wants_all : (l : Listener) (chunk carry : List ℕ) (first : ℕ) (stage stated : List ℕ) (r : Step) (carry' stage' stated' : List ℕ) → HearsSo l chunk carry first stage stated r carry' stage' stated' → r.said ≡ WantsMore
    → r.used ≡ length chunk
wants_all l chunk carry first stage stated r carry' stage' stated' h more = so l h
  where
    by_decided : (t : Bool) (kind : Kind) (x : Loading) (n : ℕ) → (decided_by t kind x n).said ≡ WantsMore → ⊥
    by_decided true kind (Ok t) n e = let z : ◌≡◌ {A = ℕ} 0 1 = cc in absurd (omega arith)
    by_decided true kind (Err z) n e = let z : ◌≡◌ {A = ℕ} 0 1 = cc in absurd (omega arith)
    by_decided false kind x n e = let z : ◌≡◌ {A = ℕ} 0 1 = cc in absurd (omega arith)

    by_step : (s : Intake) (before : ℕ) (a : Reply) → r ≡ step_by s before (length chunk) a → r.used ≡ length chunk
    by_step s before (reply.WantsMore s') e = ap (λ (z : Step). z.used) e
    by_step s before (reply.Decided x used) e = absurd (by_decided s.tail s.kind x (before + used) (sym (ap (λ (z : Step). z.said) e) ∙ more))
    by_step s before reply.CarryTooSmall e = let h = sym (ap (λ (z : Step). z.said) e) ∙ more in let z : ◌≡◌ {A = ℕ} 0 1 = cc in absurd (omega arith)

    at_front : (kind : Kind) (cr : Bool) → FromFront kind cr chunk carry first stage stated r carry' stage' stated' → r.used ≡ length chunk
    at_front kind cr f = by (eqb (blanks cr chunk).at (length chunk)) refl
      where
        by : (t : Bool) → eqb (blanks cr chunk).at (length chunk) ≡ t → r.used ≡ length chunk
        by true e = ap (λ (z : Step). z.used) (f.empty e).0
        by false e = let g = f.dump e in by_step (begun kind (blanks cr chunk).cr) (blanks cr chunk).at g.reply g.answer

    so : (l : Listener) → HearsSo l chunk carry first stage stated r carry' stage' stated' → r.used ≡ length chunk
    so (Front kind cr) f = at_front kind cr f
    so (Within s) f = by_step s 0 f.reply f.answer
    so (Ready kind) f = at_front kind false f

-- a call after which more is wanted leaves no dump ready
wants_unready : (l : Listener) (chunk carry : List ℕ) (first : ℕ) (stage stated : List ℕ) (r : Step) (carry' stage' stated' : List ℕ) (k : Kind) → Hears l chunk carry first stage stated r carry' stage' stated'
    → r.said ≡ WantsMore → r.listener ≡ Ready k → ⊥
wants_unready l chunk carry first stage stated r carry' stage' stated' k h more is = go (too_small l (length carry)) refl (unfit first (length stage) (length stated)) refl
  where
    by_step : (s : Intake) (before : ℕ) (a : Reply) → r ≡ step_by s before (length chunk) a → ⊥
    by_step s before a e =
        let (s', _, there) = wanted s before (length chunk) a (sym (ap (λ (z : Step). z.said) e) ∙ more) in
        let q : Within s' ≡ Ready k = sym there ∙ sym (ap (λ (z : Step). z.listener) e) ∙ is in
        let z : ◌≡◌ {A = ℕ} 0 1 = cc in absurd (omega arith)

    at_front : (kind : Kind) (cr : Bool) → FromFront kind cr chunk carry first stage stated r carry' stage' stated' → ⊥
    at_front kind cr f = by (eqb (blanks cr chunk).at (length chunk)) refl
      where
        by : (t : Bool) → eqb (blanks cr chunk).at (length chunk) ≡ t → ⊥
        by true e = let q : Front kind (blanks cr chunk).cr ≡ Ready k = sym (ap (λ (z : Step). z.listener) (f.empty e).0) ∙ is in let z : ◌≡◌ {A = ℕ} 0 1 = cc in absurd (omega arith)
        by false e = let g = f.dump e in by_step (begun kind (blanks cr chunk).cr) (blanks cr chunk).at g.reply g.answer

    so : (l : Listener) → HearsSo l chunk carry first stage stated r carry' stage' stated' → ⊥
    so (Front kind cr) f = at_front kind cr f
    so (Within s) f = by_step s 0 f.reply f.answer
    so (Ready kind) f = at_front kind false f

    go : (t : Bool) → too_small l (length carry) ≡ t → (u : Bool) → unfit first (length stage) (length stated) ≡ u → ⊥
    go true e u f = let q = sym (ap (λ (z : Step). z.said) (h.small e).answer) ∙ more in let z : ◌≡◌ {A = ℕ} 0 1 = cc in absurd (omega arith)
    go false e true f = let q = sym (ap (λ (z : Step). z.said) (h.bad_window e f).answer) ∙ more in let z : ◌≡◌ {A = ℕ} 0 1 = cc in absurd (omega arith)
    go false e false f = so l (h.else_so e f)

-- so a row that ends where a dump is ready has no call
ready_first : {first : ℕ} {l₁ l : Listener} {carry₁ stage₁ stated₁ bytes carry stage stated : List ℕ} (k : Kind) → Listens first l₁ carry₁ stage₁ stated₁ bytes l carry stage stated → l ≡ Ready k
    → (bytes ≡ []) × (l₁ ≡ Ready k)
ready_first k calls.no_chunk e = (refl, e)
ready_first {first = first} k (calls.and_then {bytes} {l} {carry} {stage} {stated} chunk r carry' stage' stated' row h more) e =
    absurd (wants_unready l chunk carry first stage stated r carry' stage' stated' k h more e)

-- a commit that is done was of a dump that is ready
pub done_so : (l : Listener) (stage stated page marks : List ℕ) (l' : Listener) (page' marks' : List ℕ) → Commits l stage stated page marks (Ok l') page' marks'
    → (k : Kind) × (l ≡ Ready k) × (l' ≡ Front k false)
done_so (Front k c) stage stated page marks l' page' marks' x = let q = x.answer in let z : ◌≡◌ {A = ℕ} 0 1 = cc in absurd (omega arith)
done_so (Within s) stage stated page marks l' page' marks' x = let q = x.answer in let z : ◌≡◌ {A = ℕ} 0 1 = cc in absurd (omega arith)
done_so (Ready k) stage stated page marks l' page' marks' x = (k, refl, go x.fits x.answer)
  where
    go : (b : Bool) → Ok l' ≡ commit_by k b → l' ≡ Front k false
    go true e = cc
    go false e = let z : ◌≡◌ {A = ℕ} 0 1 = cc in absurd (omega arith)

-- a text is not passed over
module _ (kind : Kind) (cr : Bool) (first : ℕ) (carry₀ stage₀ stated₀ bytes chunk : List ℕ) (r : Step) (carry' stage' stated' : List ℕ) (told : r.said ≡ Passed) where
  never_by : (s : Intake) (before : ℕ) (a : Reply) → s.tail ≡ false → r ≡ step_by s before (length chunk) a → ⊥
  never_by s before (reply.WantsMore s') t e = let h = sym (ap (λ (z : Step). z.said) e) ∙ told in let z : ◌≡◌ {A = ℕ} 0 1 = cc in absurd (omega arith)
  never_by s before (reply.Decided x used) t e =
      let h : (decided_by false s.kind x (before + used)).said ≡ Passed = sym (ap (λ (z : Step). z.said) (e ∙ ap (λ (b : Bool). decided_by b s.kind x (before + used)) t)) ∙ told in
      let z : ◌≡◌ {A = ℕ} 0 1 = cc in absurd (omega arith)
  never_by s before reply.CarryTooSmall t e = let h = sym (ap (λ (z : Step). z.said) e) ∙ told in let z : ◌≡◌ {A = ℕ} 0 1 = cc in absurd (omega arith)

  never_front : (kind' : Kind) (waits : Bool) (carry stage stated : List ℕ) → FromFront kind' waits chunk carry first stage stated r carry' stage' stated' → ⊥
  never_front kind' waits carry stage stated f = by (eqb (blanks waits chunk).at (length chunk)) refl
    where
      by : (t : Bool) → eqb (blanks waits chunk).at (length chunk) ≡ t → ⊥
      by true e = let h = sym (ap (λ (z : Step). z.said) (f.empty e).0) ∙ told in let z : ◌≡◌ {A = ℕ} 0 1 = cc in absurd (omega arith)
      by false e = let g = f.dump e in never_by (begun kind' (blanks waits chunk).cr) (blanks waits chunk).at g.reply refl g.answer

  never_passed : (l : Listener) (carry stage stated : List ℕ) → Come kind cr first carry₀ stage₀ stated₀ bytes l carry stage stated → HearsSo l chunk carry first stage stated r carry' stage' stated' → ⊥
  never_passed (Front k c) carry stage stated x f = never_front k c carry stage stated f
  never_passed (Ready k) carry stage stated x f = never_front k false carry stage stated f
  never_passed (Within s) carry stage stated x f =
      let here = come_to kind false x.waits first carry₀ stage₀ (replicate (length stated₀) 0) (begun kind x.waits) refl x.chunks s carry stage stated x.row in
      never_by s 0 f.reply here.tail_is f.answer

-- a call that says neither 18 nor 16 is open
open_so : (l : Listener) (chunk carry : List ℕ) (first : ℕ) (stage stated : List ℕ) (r : Step) (carry' stage' stated' : List ℕ) → Hears l chunk carry first stage stated r carry' stage' stated'
    → (r.said ≡ CarryTooSmall → ⊥) → unfit first (length stage) (length stated) ≡ false → HearsSo l chunk carry first stage stated r carry' stage' stated'
open_so l chunk carry first stage stated r carry' stage' stated' h other fit = go (too_small l (length carry)) refl
  where
    go : (t : Bool) → too_small l (length carry) ≡ t → HearsSo l chunk carry first stage stated r carry' stage' stated'
    go true e = absurd (other (ap (λ (x : Step). x.said) (h.small e).answer))
    go false e = h.else_so e fit

-- the text of a dump is no longer than the bytes in which it lies
dump_short : (cr : Bool) (bytes : List ℕ) → length (dump_in cr bytes) ≤ length (cr_before cr) + length bytes
unfolding blanks
dump_short cr [] = omega (arith, length-append (cr_before cr) [])
dump_short cr (c ∷ bytes) = go (is_blank c cr) refl (dump_short (eqb c 13) bytes)
  where
    one : (r : Bool) → length (cr_before r) ≤ 1
    one true = omega arith
    one false = omega arith

    go : (t : Bool) → is_blank c cr ≡ t → length (dump_in (eqb c 13) bytes) ≤ length (cr_before (eqb c 13)) + length bytes → length (dump_in cr (c ∷ bytes)) ≤ length (cr_before cr) + suc (length bytes)
    go true e ih =
        let is : dump_in cr (c ∷ bytes) ≡ dump_in (eqb c 13) bytes = ap (λ (b : Blank). cr_before b.cr ++ drop b.at (c ∷ bytes)) (if_true _ _ _ e) in
        let n = ap length is in
        omega (arith, n, ih, one (eqb c 13))
    go false e ih =
        let is : dump_in cr (c ∷ bytes) ≡ cr_before cr ++ (c ∷ bytes) = ap (λ (b : Blank). cr_before b.cr ++ drop b.at (c ∷ bytes)) (if_false _ _ _ e) in
        let n = ap length is in
        omega (arith, n, length-append (cr_before cr) (c ∷ bytes))

-- ---- where calls have come

module _ (kind : Kind) (known : Bool) (first : ℕ) (stage₀ stated₀ stream : List ℕ) (fit : unfit first (length stage₀) (length stated₀) ≡ false) (few : suc (length stream) < 2 ^ 64) where
  abbrev S : Type 0
  S = (way_of kind false).State

  abbrev src : Source S
  src = (way_of kind false).source

  abbrev inside₀ : ℕ → Bool
  inside₀ = within first (length stage₀)

  -- a row of calls since a text or a tail began
  data Since : Mode S → (bytes : List ℕ) (l : Listener) (carry stage stated : List ℕ) → Type 0 where
    in_text : {bytes : List ℕ} {l : Listener} {carry stage stated : List ℕ} (l₁ : Listener) (carry₁ stage₁ stated₁ : List ℕ) → BeginsText l₁ kind false
        → length stage₁ ≡ length stage₀ → length stated₁ ≡ length stated₀ → Listens first l₁ carry₁ stage₁ stated₁ bytes l carry stage stated → Since front bytes l carry stage stated
    in_tail : {bytes : List ℕ} {l : Listener} {carry stage stated : List ℕ} (carry₁ stage₁ stated₁ : List ℕ)
        → length stage₁ ≡ length stage₀ → length stated₁ ≡ length stated₀ → Listens first (Within (new_tail kind)) carry₁ stage₁ stated₁ bytes l carry stage stated → Since skipping bytes l carry stage stated

  record Here (answers : List Loading) (left : List ℕ) (l : Listener) (carry stage stated : List ℕ) : Type 0 where
    says : List Saying
    mode : Mode S
    bytes : List ℕ
    since : Since mode bytes l carry stage stated
    told : map verdict_of says ≡ map told_loading answers
    heard : listen src inside₀ (first_mode known) (lines stream) ≡ saying-first says (listen src inside₀ mode (lines (bytes ++ left)))
    short : length (bytes ++ left) ≤ length stream
    same_stage : length stage ≡ length stage₀
    same_stated : length stated ≡ length stated₀

  since_first : (known : Bool) (carry : List ℕ) → Since (first_mode known) [] (begins kind known) carry stage₀ stated₀
  since_first true carry = in_text (Front kind false) carry stage₀ stated₀ (refl, refl) refl refl calls.no_chunk
  since_first false carry = in_tail carry stage₀ stated₀ refl refl calls.no_chunk

  since_more : {mode : Mode S} {bytes : List ℕ} {l : Listener} {carry stage stated : List ℕ} (chunk : List ℕ) (r : Step) (carry' stage' stated' : List ℕ) → Since mode bytes l carry stage stated
      → Hears l chunk carry first stage stated r carry' stage' stated' → r.said ≡ WantsMore → Since mode (bytes ++ chunk) r.listener carry' stage' stated'
  since_more chunk r carry' stage' stated' (in_text l₁ carry₁ stage₁ stated₁ b p m row) h e = in_text l₁ carry₁ stage₁ stated₁ b p m (calls.and_then chunk r carry' stage' stated' row h e)
  since_more chunk r carry' stage' stated' (in_tail carry₁ stage₁ stated₁ p m row) h e = in_tail carry₁ stage₁ stated₁ p m (calls.and_then chunk r carry' stage' stated' row h e)

  since_after : (answer : Loading) (carry stage stated : List ℕ) → length stage ≡ length stage₀ → length stated ≡ length stated₀ → Since (mode_after (told_loading answer)) [] (after kind answer) carry stage stated
  since_after (Ok t) carry stage stated p m = in_text (Ready kind) carry stage stated (refl, refl) p m calls.no_chunk
  since_after (Err z) carry stage stated p m = in_tail carry stage stated p m calls.no_chunk

  fit_at : (stage stated : List ℕ) → length stage ≡ length stage₀ → length stated ≡ length stated₀ → unfit first (length stage) (length stated) ≡ false
  fit_at stage stated p m = rw (p, m) fit

  module _ (answers : List Loading) (left : List ℕ) (l : Listener) (carry stage stated : List ℕ) (x : Here answers left l carry stage stated)
      (chunk more : List ℕ) (is : left ≡ chunk ++ more) (r : Step) (carry' stage' stated' : List ℕ) (h : Hears l chunk carry first stage stated r carry' stage' stated') where
    page_size : length stage' ≡ length stage₀
    page_size = (hears_sizes l chunk carry first stage stated r carry' stage' stated' h).0 ∙ x.same_stage

    marks_size : length stated' ≡ length stated₀
    marks_size = (hears_sizes l chunk carry first stage stated r carry' stage' stated' h).1 ∙ x.same_stated

    fit_now : unfit first (length stage) (length stated) ≡ false
    fit_now = fit_at stage stated x.same_stage x.same_stated

    whole : x.bytes ++ left ≡ x.bytes ++ (chunk ++ more)
    whole = ap (λ (y : List ℕ). x.bytes ++ y) is

    here_wanting : r.said ≡ WantsMore → Here answers (drop r.used chunk ++ more) r.listener carry' stage' stated'
    here_wanting e =
        let used = wants_all l chunk carry first stage stated r carry' stage' stated' (open_so l chunk carry first stage stated r carry' stage' stated' h (λ q. let z : ◌≡◌ {A = ℕ} 0 1 = cc in absurd (omega arith)) fit_now) e in
        let rest : drop r.used chunk ++ more ≡ more = ap (λ (n : ℕ). drop n chunk ++ more) used ∙ ap (λ (y : List ℕ). y ++ more) (drop-length chunk) in
        let same : x.bytes ++ left ≡ (x.bytes ++ chunk) ++ (drop r.used chunk ++ more) =
        whole ∙ sym (append_assoc x.bytes chunk more) ∙ ap (λ (y : List ℕ). (x.bytes ++ chunk) ++ y) (sym rest) in
        record {
          says = x.says;
          mode = x.mode;
          bytes = x.bytes ++ chunk;
          since = since_more chunk r carry' stage' stated' x.since h e;
          told = x.told;
          heard = x.heard ∙ ap (λ (y : List ℕ). saying-first x.says (listen src inside₀ x.mode (lines y))) same;
          short = subst (λ (y : List ℕ). length y ≤ length stream) same x.short;
          same_stage = page_size;
          same_stated = marks_size;
        }

    -- what is left is part of the stream
    left_short : length (drop r.used chunk ++ more) ≤ length stream
    left_short =
        let a = ap length whole in
        omega (arith, x.short, a, length-append x.bytes (chunk ++ more), length-append chunk more, length-append (drop r.used chunk) more, length-drop r.used chunk)

    all_short : suc (length (x.bytes ++ (chunk ++ more))) < 2 ^ 64
    all_short = let a = ap length whole in omega (arith, a, x.short, few)

    here_deciding : (answer : Loading) → r.said ≡ Decided answer → Here (answers ++ (answer ∷ [])) (drop r.used chunk ++ more) r.listener carry' stage' stated'
    here_deciding answer e = by x.since x.heard
      where
        left' : List ℕ
        left' = drop r.used chunk ++ more

        v : Verdict
        v = told_loading answer

        saying : Saying
        saying = said v (reaching v (stated-in (steps_of src (dump_in false (x.bytes ++ (chunk ++ more))))))

        both : (hd : Listened S) → saying-first x.says (saying-first (saying ∷ []) hd) ≡ saying-first (x.says ++ (saying ∷ [])) hd
        both hd = ap (λ (y : List Saying). record { says = y; mode = hd.mode }) (sym (append_assoc x.says (saying ∷ []) hd.says))

        by : {mode : Mode S} → Since mode x.bytes l carry stage stated → listen src inside₀ (first_mode known) (lines stream) ≡ saying-first x.says (listen src inside₀ mode (lines (x.bytes ++ left)))
            → Here (answers ++ (answer ∷ [])) left' r.listener carry' stage' stated'
        by (in_text l₁ carry₁ stage₁ stated₁ b p m row) heard =
            let fit₁ = fit_at stage₁ stated₁ p m in
            let n = dump_short false (x.bytes ++ (chunk ++ more)) in
            let small : suc (length (dump_in false (x.bytes ++ (chunk ++ more)))) < 2 ^ 64 = omega (arith, n, all_short) in
            let one = dump_is_heard kind false first l₁ carry₁ stage₁ stated₁ b fit₁ x.bytes l carry stage stated row chunk r carry' stage' stated' answer h e more small in
            let said_so = subst (λ (k : ℕ). listen src (within first k) front (lines (x.bytes ++ (chunk ++ more))) ≡ saying-first (saying ∷ []) (listen src (within first k) (mode_after v) (lines left'))) p one in
            let (_, _, _, there) = dump_decides kind false first l₁ carry₁ stage₁ stated₁ b fit₁ x.bytes l carry stage stated row chunk r carry' stage' stated' answer h e more stage₁ stated₁ small refl refl in
            record {
              says = x.says ++ (saying ∷ []);
              mode = mode_after v;
              bytes = [];
              since = subst (λ (y : Listener). Since (mode_after v) [] y carry' stage' stated') (sym there) (since_after answer carry' stage' stated' page_size marks_size);
              told = map-append verdict_of x.says (saying ∷ []) ∙ ap (λ (y : List Verdict). y ++ (v ∷ [])) x.told ∙ sym (map-append told_loading answers (answer ∷ []));
              heard = heard ∙ ap (λ (y : List ℕ). saying-first x.says (listen src inside₀ front (lines y))) whole ∙ ap (saying-first x.says) said_so ∙ both (listen src inside₀ (mode_after v) (lines left'));
              short = left_short;
              same_stage = page_size;
              same_stated = marks_size;
            }
        by (in_tail carry₁ stage₁ stated₁ p m row) heard =
            absurd ((tail_passes kind first carry₁ stage₁ stated₁ (fit_at stage₁ stated₁ p m) x.bytes l carry stage stated row chunk r carry' stage' stated' h more all_short).0 answer e)

    here_passing : r.said ≡ Passed → Here answers (drop r.used chunk ++ more) r.listener carry' stage' stated'
    here_passing e = by x.since x.heard
      where
        left' : List ℕ
        left' = drop r.used chunk ++ more

        by : {mode : Mode S} → Since mode x.bytes l carry stage stated → listen src inside₀ (first_mode known) (lines stream) ≡ saying-first x.says (listen src inside₀ mode (lines (x.bytes ++ left)))
            → Here answers left' r.listener carry' stage' stated'
        by (in_text l₁ carry₁ stage₁ stated₁ b p m row) heard =
            absurd (never_passed kind false first carry₁ stage₁ stated₁ x.bytes chunk r carry' stage' stated' e l carry stage stated (come kind false first carry₁ stage₁ stated₁ (fit_at stage₁ stated₁ p m) b row)
            (open_so l chunk carry first stage stated r carry' stage' stated' h (λ q. let z : ◌≡◌ {A = ℕ} 0 1 = cc in absurd (omega arith)) fit_now))
        by (in_tail carry₁ stage₁ stated₁ p m row) heard =
            let fit₁ = fit_at stage₁ stated₁ p m in
            let one = tail_is_heard kind first carry₁ stage₁ stated₁ fit₁ x.bytes l carry stage stated row chunk r carry' stage' stated' h e more all_short in
            let on = subst (λ (k : ℕ). listen src (within first k) skipping (lines (x.bytes ++ (chunk ++ more))) ≡ listen src (within first k) front (lines left')) p one in
            let (_, _, there, _, _) = (tail_passes kind first carry₁ stage₁ stated₁ fit₁ x.bytes l carry stage stated row chunk r carry' stage' stated' h more all_short).1 e in
            record {
              says = x.says;
              mode = front;
              bytes = [];
              since = subst (λ (y : Listener). Since front [] y carry' stage' stated') (sym there) (in_text (Front kind false) carry' stage' stated' (refl, refl) page_size marks_size calls.no_chunk);
              told = x.told;
              heard = heard ∙ ap (λ (y : List ℕ). saying-first x.says (listen src inside₀ skipping (lines y))) whole ∙ ap (saying-first x.says) on;
              short = left_short;
              same_stage = page_size;
              same_stated = marks_size;
            }

  -- after a commit a text begins, as after the dump
  here_committing : (answers : List Loading) (left : List ℕ) (l : Listener) (carry stage stated : List ℕ) (x : Here answers left l carry stage stated) (k : Kind) → l ≡ Ready k → (l' : Listener) → l' ≡ Front k false
      → Here answers left l' carry stage stated
  here_committing answers left l carry stage stated x k is l' is' = by x.since x.heard
    where
      by : {mode : Mode S} → Since mode x.bytes l carry stage stated → listen src inside₀ (first_mode known) (lines stream) ≡ saying-first x.says (listen src inside₀ mode (lines (x.bytes ++ left)))
          → Here answers left l' carry stage stated
      by (in_text l₁ carry₁ stage₁ stated₁ b p m row) heard =
          let (none_yet, from) = ready_first k row is in
          let (same, _) = subst (λ (y : Listener). BeginsText y kind false) from b in
          let front-now : Since front [] (Front kind false) carry stage stated = in_text (Front kind false) carry stage stated (refl, refl) x.same_stage x.same_stated calls.no_chunk in
          record {
            says = x.says;
            mode = front;
            bytes = x.bytes;
            since = subst (λ (y : List ℕ). Since front y l' carry stage stated) (sym none_yet)
                (subst (λ (y : Listener). Since front [] y carry stage stated) (sym (is' ∙ ap (λ (y : Kind). Front y false) same)) front-now);
            told = x.told;
            heard = heard;
            short = x.short;
            same_stage = x.same_stage;
            same_stated = x.same_stated;
          }
      by (in_tail carry₁ stage₁ stated₁ p m row) heard =
          absurd (subst (λ (y : Listener). Passing kind first carry₁ stage₁ stated₁ (fit_at stage₁ stated₁ p m) x.bytes y carry stage stated) is (rows.passing kind first carry₁ stage₁ stated₁ (fit_at stage₁ stated₁ p m) row))

  here : {carry₀ : List ℕ} {answers : List Loading} {left : List ℕ} {l : Listener} {carry stage stated : List ℕ} → Calls first (begins kind known) carry₀ stage₀ stated₀ stream answers left l carry stage stated
      → Here answers left l carry stage stated
  here {carry₀} no_call =
      record { says = []; mode = first_mode known; bytes = []; since = since_first known carry₀; told = refl; heard = refl; short = omega arith; same_stage = refl; same_stated = refl }
  here (wanting {answers} {left} {l} {carry} {stage} {stated} chunk more r carry' stage' stated' c is h e) = here_wanting answers left l carry stage stated (here c) chunk more is r carry' stage' stated' h e
  here (deciding {answers} {left} {l} {carry} {stage} {stated} chunk more r carry' stage' stated' answer c is h e) = here_deciding answers left l carry stage stated (here c) chunk more is r carry' stage' stated' h answer e
  here (passing {answers} {left} {l} {carry} {stage} {stated} chunk more r carry' stage' stated' c is h e) = here_passing answers left l carry stage stated (here c) chunk more is r carry' stage' stated' h e
  here (committing {answers} {left} {l} {carry} {stage} {stated} page marks l' page' marks' c d) =
      let (k, is, is') = done_so l stage stated page marks l' page' marks' d in here_committing answers left l carry stage stated (here c) k is l' is'

pub calls_listen : CallsListen
calls_listen kind known first carry₀ stage₀ stated₀ stream fit few answers left l carry stage stated c =
    let x = here kind known first stage₀ stated₀ stream fit few c in
    (x.says, x.mode, x.bytes, x.told, x.heard)
