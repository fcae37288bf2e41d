-- Rows of calls of a listener: where a row has come, and what the call after it decides.
-- Assumes nothing.
use Prim.Native.Nat.{ℕ, suc, ◌+◌, ◌^◌, ◌<◌, ◌≤◌}
use mathlib.Core.Path.{◌≡◌, refl, sym, ap, subst, ◌∙◌}
use mathlib.Core.Bool.{Bool, true, false}
use mathlib.Core.List.{List, [], ◌∷◌, ◌++◌, append-nil, append_assoc}
use native.Mathlib.Omega.{arith}
use lib.Dec.{eqb}
use lib.ListN.{length, drop, replicate, length-append, length-replicate, length-drop}
use borrow.Author.Tests.{eqb-true}
use lib.Seq.{drop-append-le, drop-append-add, drop-drop}
use Rattle.marks.specs.Claims.{Bytes}
use Rattle.chunks.specs.Rows.{joined}
use Rattle.steps.specs.Aliases.{Loading}
use Rattle.steps.specs.Steps.{stated as stated-in}
use Rattle.steps.specs.Source.{steps_of}
use Rattle.steps.specs.declared.Tally.{Tally}
use Rattle.steps.specs.Told.{tallied}
use Rattle.steps.proofs.Places.{length_painted}
use Rattle.window.specs.Window.{unfit, window}
use Rattle.window.specs.Promises.{Painted}
use Rattle.window.specs.Load.{load_window}
use Rattle.commit.proofs.Claims.{commits_as_load}
use Rattle.intake.specs.declared.Kind.{Kind}
use Rattle.intake.specs.declared.Intake.{Intake}
use Rattle.intake.specs.declared.Reply.{Reply}
use Rattle.intake.specs.declared.Reply.TheVariants as reply
use Rattle.intake.specs.Aliases.{Ending}
use Rattle.intake.specs.Ways.{way_of}
use Rattle.intake.specs.Intake.{Feeds, new_tail, spoilt}
use Rattle.intake.specs.Ending.{Finishes}
use Rattle.intake.specs.Rows.{Row, no_chunk, and_then, cr_before, text_of, AsLoad, UsedThrough, PassedThrough}
use Rattle.intake.proofs.Before.{joined_one}
use Rattle.intake.proofs.Rows.{come_to, row_decides, row_ends}
use Rattle.intake.proofs.Tails.{tail_decides}
use Rattle.listen.specs.declared.Blank.{Blank}
use Rattle.listen.specs.declared.Listener.{Listener}
use Rattle.listen.specs.declared.Listener.TheVariants.{Front, Within, Ready}
use Rattle.listen.specs.declared.Said.TheVariants.{WantsMore, Decided, Passed, CarryTooSmall}
use Rattle.listen.specs.declared.Step.{Step}
use Rattle.listen.specs.Aliases.{Committed}
use Rattle.listen.specs.Listener.{blanks, step, step_by, decided_by, end_by, after, after_end, too_small, begun, FedTo, FromFront, HearsSo, Hears, PausesSo, commit_by, Commits}
use Rattle.listen.specs.Calls as calls
use Rattle.listen.specs.Calls.{Listens, BeginsText, dump_in, kind_of, DumpDecides, DumpCommits, DumpEnds, EndCommits, TailPasses, PauseBegins}
use Rattle.listen.proofs.Blanks.{after_so_many, blanks_on, blanks_begun, blanks_begin}
use Rattle.std.specs.Prelude.{None, Ok, Some}
use Rattle.std.specs.Prelude.{Err}

-- ---- what a step says of the load's reply

pub wanted : (s : Intake) (before whole : ℕ) (a : Reply) → (step_by s before whole a).said ≡ WantsMore → (s' : Intake) × (a ≡ reply.WantsMore s') × ((step_by s before whole a).listener ≡ Within s')
wanted s before whole (reply.WantsMore s') e = (s', refl, refl)
wanted s before whole (reply.Decided l used) e = go s.tail l e
  where
    go : (t : Bool) (l : Loading) → (decided_by t s.kind l (before + used)).said ≡ WantsMore
        → (s' : Intake) × (reply.Decided l used ≡ reply.WantsMore s') × ((decided_by t s.kind l (before + used)).listener ≡ Within s')
    go true (Ok t) f = let z : ◌≡◌ {A = ℕ} 0 1 = cc in absurd (omega arith)
    go true (Err z) f = let z : ◌≡◌ {A = ℕ} 0 1 = cc in absurd (omega arith)
    go false l f = let z : ◌≡◌ {A = ℕ} 0 1 = cc in absurd (omega arith)
wanted s before whole reply.CarryTooSmall e = let z : ◌≡◌ {A = ℕ} 0 1 = cc in absurd (omega arith)

decided : (s : Intake) (before whole : ℕ) (a : Reply) (answer : Loading) → s.tail ≡ false → (step_by s before whole a).said ≡ Decided answer
    → (used : ℕ) × (a ≡ reply.Decided answer used) × ((step_by s before whole a).used ≡ before + used) × ((step_by s before whole a).listener ≡ after s.kind answer)
decided s before whole (reply.WantsMore s') answer t e = let z : ◌≡◌ {A = ℕ} 0 1 = cc in absurd (omega arith)
decided s before whole (reply.Decided l used) answer t e = go s.tail t e
  where
    go : (t : Bool) → t ≡ false → (decided_by t s.kind l (before + used)).said ≡ Decided answer
        → (u : ℕ) × (reply.Decided l used ≡ reply.Decided answer u) × ((decided_by t s.kind l (before + used)).used ≡ before + u) × ((decided_by t s.kind l (before + used)).listener ≡ after s.kind answer)
    go true f h = let z : ◌≡◌ {A = ℕ} 0 1 = cc in absurd (omega arith)
    go false f h = let k : l ≡ answer = cc in (used, ap (λ (x : Loading). reply.Decided x used) k, refl, ap (after s.kind) k)
decided s before whole reply.CarryTooSmall answer t e = let z : ◌≡◌ {A = ℕ} 0 1 = cc in absurd (omega arith)

-- a call that is neither too small nor in a window that is refused
open_call : (l : Listener) (chunk carry : List ℕ) (first : ℕ) (stage stated : List ℕ) (r : Step) (carry' stage' stated' : List ℕ) → Hears l chunk carry first stage stated r carry' stage' stated'
    → (r.said ≡ CarryTooSmall → ⊥) → unfit first (length stage) (length stated) ≡ false → HearsSo l chunk carry first stage stated r carry' stage' stated'
open_call l chunk carry first stage stated r carry' stage' stated' h other fit = go (too_small l (length carry)) refl
  where
    go : (t : Bool) → too_small l (length carry) ≡ t → HearsSo l chunk carry first stage stated r carry' stage' stated'
    go true e = absurd (other (ap (λ (x : Step). x.said) (h.small e).answer))
    go false e = h.else_so e fit

-- ---- where a row has come

module _ (kind : Kind) (cr : Bool) (first : ℕ) (carry₀ stage₀ stated₀ : List ℕ) where
  abbrev pub cleared : List ℕ
  cleared = replicate (length stated₀) 0

  -- only bytes of empty lines have come, and nothing was changed
  pub record BlankSo (bytes : List ℕ) (kind' : Kind) (waits : Bool) (carry stage stated : List ℕ) : Type 0 where
    pub kind_is : kind' ≡ kind
    pub all_blank : blanks cr bytes ≡ record { at = length bytes; cr = waits }
    pub carry_is : carry ≡ carry₀
    pub stage_is : stage ≡ stage₀
    pub stated_is : stated ≡ stated₀

  -- a load is fed the text from the dump's first byte on
  pub record DumpSo (bytes : List ℕ) (s : Intake) (carry stage stated : List ℕ) : Type 0 where
    pub at : ℕ
    pub waits : Bool
    pub begins : blanks cr bytes ≡ record { at = at; cr = waits }
    pub inside : at < length bytes
    pub chunks : List (List ℕ)
    pub row : Row first (begun kind waits) carry₀ stage₀ cleared chunks s carry stage stated
    pub rest : joined chunks ≡ drop at bytes

  abbrev pub Come : (bytes : List ℕ) → Listener → (carry stage stated : List ℕ) → Type 0
  Come bytes (Front kind' waits) carry stage stated = BlankSo bytes kind' waits carry stage stated
  Come bytes (Within s) carry stage stated = DumpSo bytes s carry stage stated
  Come bytes (Ready kind') carry stage stated = BlankSo bytes kind' false carry stage stated

  come_first : (l₀ : Listener) → BeginsText l₀ kind cr → Come [] l₀ carry₀ stage₀ stated₀
  unfolding blanks
  come_first (Front kind' waits) (k, c) = record { kind_is = k; all_blank = ap (λ (x : Bool). record { at = 0; cr = x }) (sym c); carry_is = refl; stage_is = refl; stated_is = refl }
  come_first (Within s) b = absurd b
  come_first (Ready kind') (k, c) = record { kind_is = k; all_blank = ap (λ (x : Bool). record { at = 0; cr = x }) (sym c); carry_is = refl; stage_is = refl; stated_is = refl }

  module _ (fit : unfit first (length stage₀) (length stated₀) ≡ false) where
    -- the window is that of the row's beginning
    pub fit_there : (bytes : List ℕ) (l : Listener) (carry stage stated : List ℕ) → Come bytes l carry stage stated → unfit first (length stage) (length stated) ≡ false
    fit_there bytes (Front k c) carry stage stated x = rw (x.stage_is, x.stated_is) fit
    fit_there bytes (Within s) carry stage stated x =
        let here = come_to kind false x.waits first carry₀ stage₀ cleared (begun kind x.waits) refl x.chunks s carry stage stated x.row in
        let a : length stage ≡ length stage₀ = ap length here.paints.page ∙ length_painted (window first (length stage₀)) here.placements 0 stage₀ in
        let b : length stated ≡ length stated₀ = here.paints.row.same_length ∙ length-replicate (length stated₀) 0 in
        rw (a, b) fit
    fit_there bytes (Ready k) carry stage stated x = rw (x.stage_is, x.stated_is) fit

    module _ (bytes chunk : List ℕ) (kind' : Kind) (waits : Bool) (carry stage stated : List ℕ) (x : BlankSo bytes kind' waits carry stage stated) where
      -- the bytes of the row and a chunk after them
      both_blank : blanks cr (bytes ++ chunk) ≡ after_so_many (length bytes) (blanks waits chunk)
      both_blank = blanks_on cr bytes chunk waits x.all_blank

      -- a load that begins in the chunk, from where the row began
      begun_so : (r : Step) (carry' stage' stated' : List ℕ)
          → FedTo (begun kind' (blanks waits chunk).cr) (blanks waits chunk).at (length chunk) (drop (blanks waits chunk).at chunk) carry first stage (replicate (length stated) 0) r carry' stage' stated'
          → FedTo (begun kind (blanks waits chunk).cr) (blanks waits chunk).at (length chunk) (drop (blanks waits chunk).at chunk) carry₀ first stage₀ cleared r carry' stage' stated'
      begun_so r carry' stage' stated' f = rw (x.kind_is, x.carry_is, x.stage_is, x.stated_is) at f

      -- more is wanted after it
      front_on : (r : Step) (carry' stage' stated' : List ℕ) → FromFront kind' waits chunk carry first stage stated r carry' stage' stated' → r.said ≡ WantsMore → Come (bytes ++ chunk) r.listener carry' stage' stated'
      unfolding joined
      front_on r carry' stage' stated' f more = go (eqb (blanks waits chunk).at (length chunk)) refl
        where
          go : (t : Bool) → eqb (blanks waits chunk).at (length chunk) ≡ t → Come (bytes ++ chunk) r.listener carry' stage' stated'
          go true e =
              let (a, k, q, n) = f.empty e in
              let same : (blanks waits chunk).at ≡ length chunk = eqb-true (blanks waits chunk).at (length chunk) e in
              let sizes : length bytes + (blanks waits chunk).at ≡ length (bytes ++ chunk) = omega (arith, same, length-append bytes chunk) in
              subst (λ (z : Step). Come (bytes ++ chunk) z.listener carry' stage' stated') (sym a)
              (record {
                kind_is = x.kind_is;
                all_blank = both_blank ∙ ap (λ (m : ℕ). record { at = m; cr = (blanks waits chunk).cr }) sizes;
                carry_is = k ∙ x.carry_is;
                stage_is = q ∙ x.stage_is;
                stated_is = n ∙ x.stated_is;
              })
          go false e =
              let g = begun_so r carry' stage' stated' (f.dump e) in
              let b = blanks waits chunk in
              let (s', is, there) = wanted (begun kind b.cr) b.at (length chunk) g.reply (sym (ap (λ (z : Step). z.said) g.answer) ∙ more) in
              let fed = subst (λ (y : Reply). Feeds (begun kind b.cr) (drop b.at chunk) carry₀ first stage₀ cleared y carry' stage' stated') is g.feeds in
              let h = blanks_begin waits chunk e in
              subst (λ (l : Listener). Come (bytes ++ chunk) l carry' stage' stated') (sym (ap (λ (z : Step). z.listener) g.answer ∙ there))
              (record {
                at = length bytes + b.at;
                waits = b.cr;
                begins = both_blank;
                inside = omega (arith, h, length-append bytes chunk);
                chunks = drop b.at chunk ∷ [];
                row = and_then (drop b.at chunk) s' carry' stage' stated' no_chunk fed;
                rest = joined_one [] (drop b.at chunk) ∙ sym (drop-append-add bytes chunk b.at);
              })

    -- more is wanted after a chunk within a dump
    within_on : (bytes chunk : List ℕ) (s : Intake) (carry stage stated : List ℕ) → DumpSo bytes s carry stage stated → (r : Step) (carry' stage' stated' : List ℕ)
        → FedTo s 0 (length chunk) chunk carry first stage stated r carry' stage' stated' → r.said ≡ WantsMore → Come (bytes ++ chunk) r.listener carry' stage' stated'
    within_on bytes chunk s carry stage stated x r carry' stage' stated' g more =
        let (s', is, there) = wanted s 0 (length chunk) g.reply (sym (ap (λ (z : Step). z.said) g.answer) ∙ more) in
        let fed = subst (λ (y : Reply). Feeds s chunk carry first stage stated y carry' stage' stated') is g.feeds in
        let h = x.inside in
        let n : (blanks cr bytes).at < length bytes = rw x.begins h in
        subst (λ (l : Listener). Come (bytes ++ chunk) l carry' stage' stated') (sym (ap (λ (z : Step). z.listener) g.answer ∙ there))
        (record {
          at = x.at;
          waits = x.waits;
          begins = blanks_begun cr bytes chunk n ∙ x.begins;
          inside = omega (arith, h, length-append bytes chunk);
          chunks = x.chunks ++ (chunk ∷ []);
          row = and_then chunk s' carry' stage' stated' x.row fed;
          rest = joined_one x.chunks chunk ∙ ap (λ (y : List ℕ). y ++ chunk) x.rest ∙ sym (drop-append-le x.at bytes chunk (omega arith));
        })

    come_on : (bytes : List ℕ) (l : Listener) (carry stage stated : List ℕ) → Come bytes l carry stage stated → (chunk : List ℕ) (r : Step) (carry' stage' stated' : List ℕ)
        → HearsSo l chunk carry first stage stated r carry' stage' stated' → r.said ≡ WantsMore → Come (bytes ++ chunk) r.listener carry' stage' stated'
    come_on bytes (Front kind' waits) carry stage stated x chunk r carry' stage' stated' f more = front_on bytes chunk kind' waits carry stage stated x r carry' stage' stated' f more
    come_on bytes (Within s) carry stage stated x chunk r carry' stage' stated' f more = within_on bytes chunk s carry stage stated x r carry' stage' stated' f more
    come_on bytes (Ready kind') carry stage stated x chunk r carry' stage' stated' f more = front_on bytes chunk kind' false carry stage stated x r carry' stage' stated' f more

    pub come : {l₀ l : Listener} {bytes carry stage stated : List ℕ} → BeginsText l₀ kind cr → Listens first l₀ carry₀ stage₀ stated₀ bytes l carry stage stated → Come bytes l carry stage stated
    come {l₀ = l₀} b calls.no_chunk = come_first l₀ b
    come b (calls.and_then {bytes} {l} {carry} {stage} {stated} chunk r carry' stage' stated' row h more) =
        let x = come b row in
        come_on bytes l carry stage stated x chunk r carry' stage' stated'
        (open_call l chunk carry first stage stated r carry' stage' stated' h (λ e. let z : ◌≡◌ {A = ℕ} 0 1 = cc in absurd (omega arith)) (fit_there bytes l carry stage stated x)) more

    -- ---- the call that decides

    module _ (chunk : List ℕ) (r : Step) (carry' stage' stated' : List ℕ) (answer : Loading) (more page marks : List ℕ) (even : length page ≡ length stage₀) (rows : length marks ≡ length stated₀) where
      -- what is claimed, of a text
      abbrev DecidedSo : (text : List ℕ) → Type 0
      DecidedSo text =
          AsLoad (way_of kind false).source text first page marks stage₀ cleared answer stage' stated'
          × UsedThrough (way_of kind false).source text first page marks answer (drop r.used chunk ++ more)
          × (r.used ≤ length chunk)
          × (r.listener ≡ after kind answer)

      -- a load that was fed a part of the chunk has decided, after a row of its own
      by_row : (waits : Bool) (chunks : List (List ℕ)) (s : Intake) (carry stage stated : List ℕ) → Row first (begun kind waits) carry₀ stage₀ cleared chunks s carry stage stated
          → (before : ℕ) (part : List ℕ) → before ≤ length chunk → part ≡ drop before chunk → FedTo s before (length chunk) part carry first stage stated r carry' stage' stated' → r.said ≡ Decided answer
          → suc (length (text_of waits chunks ++ (part ++ more))) < 2 ^ 64 → DecidedSo (text_of waits chunks ++ (part ++ more))
      by_row waits chunks s carry stage stated row before part fits is g told short =
          let here = come_to kind false waits first carry₀ stage₀ cleared (begun kind waits) refl chunks s carry stage stated row in
          let (used, a, n, there) = decided s before (length chunk) g.reply answer here.tail_is (sym (ap (λ (z : Step). z.said) g.answer) ∙ told) in
          let fed = subst (λ (y : Reply). Feeds s part carry first stage stated y carry' stage' stated') a g.feeds in
          let (load, through, inside) = row_decides kind false waits first carry₀ stage₀ cleared (begun kind waits) refl chunks s carry stage stated row part answer used carry' stage' stated' fed more page marks short even (rows ∙ sym (length-replicate (length stated₀) 0)) in
          let at : r.used ≡ before + used = ap (λ (z : Step). z.used) g.answer ∙ n in
          let left : drop used part ≡ drop r.used chunk = ap (drop used) is ∙ drop-drop used before chunk ∙ ap (λ (m : ℕ). drop m chunk) (sym at) in
          let sized = ap length is in (
            load,
            subst (λ (y : List ℕ). UsedThrough (way_of kind false).source (text_of waits chunks ++ (part ++ more)) first page marks answer (y ++ more)) left (through (λ _. ap (unfit first (length stage₀)) (length-replicate (length stated₀) 0) ∙ fit)),
            omega (arith, at, inside, sized, length-drop before chunk),
            ap (λ (z : Step). z.listener) g.answer ∙ there ∙ ap (λ (k : Kind). after k answer) here.kind_is,
          )

      short_of : (text text' : List ℕ) → text ≡ text' → suc (length text) < 2 ^ 64 → suc (length text') < 2 ^ 64
      short_of text text' e h = subst (λ (t : List ℕ). suc (length t) < 2 ^ 64) e h

      -- the dump begins in the chunk
      front_decides : (bytes : List ℕ) (kind' : Kind) (waits : Bool) (carry stage stated : List ℕ) → BlankSo bytes kind' waits carry stage stated
          → FromFront kind' waits chunk carry first stage stated r carry' stage' stated' → r.said ≡ Decided answer
          → suc (length (dump_in cr (bytes ++ (chunk ++ more)))) < 2 ^ 64 → DecidedSo (dump_in cr (bytes ++ (chunk ++ more)))
      unfolding joined
      front_decides bytes kind' waits carry stage stated x f told short = go (eqb (blanks waits chunk).at (length chunk)) refl
        where
          go : (t : Bool) → eqb (blanks waits chunk).at (length chunk) ≡ t → DecidedSo (dump_in cr (bytes ++ (chunk ++ more)))
          go true e = let said = ap (λ (z : Step). z.said) (f.empty e).0 in let z : ◌≡◌ {A = ℕ} 0 1 = cc in absurd (omega arith)
          go false e =
              let b = blanks waits chunk in
              let h = blanks_begin waits chunk e in
              let is : blanks cr (bytes ++ (chunk ++ more)) ≡ after_so_many (length bytes) b =
              blanks_on cr bytes (chunk ++ more) waits x.all_blank ∙ ap (after_so_many (length bytes)) (blanks_begun waits chunk more h) in
              let text : dump_in cr (bytes ++ (chunk ++ more)) ≡ text_of b.cr [] ++ (drop b.at chunk ++ more) =
              ap (λ (y : Blank). cr_before y.cr ++ drop y.at (bytes ++ (chunk ++ more))) is
              ∙ ap (λ (y : List ℕ). cr_before b.cr ++ y) (drop-append-add bytes (chunk ++ more) b.at ∙ drop-append-le b.at chunk more (omega arith))
              ∙ ap (λ (y : List ℕ). y ++ (drop b.at chunk ++ more)) (sym (append-nil (cr_before b.cr))) in
              subst DecidedSo (sym text)
              (by_row b.cr [] (begun kind b.cr) carry₀ stage₀ cleared no_chunk b.at (drop b.at chunk) (omega arith) refl
              (begun_so bytes chunk kind' waits carry stage stated x r carry' stage' stated' (f.dump e)) told (short_of _ _ text short))

      -- it was begun before
      within_decides : (bytes : List ℕ) (s : Intake) (carry stage stated : List ℕ) → DumpSo bytes s carry stage stated
          → FedTo s 0 (length chunk) chunk carry first stage stated r carry' stage' stated' → r.said ≡ Decided answer
          → suc (length (dump_in cr (bytes ++ (chunk ++ more)))) < 2 ^ 64 → DecidedSo (dump_in cr (bytes ++ (chunk ++ more)))
      within_decides bytes s carry stage stated x g told short =
          let h = x.inside in
          let n : (blanks cr bytes).at < length bytes = rw x.begins h in
          let text : dump_in cr (bytes ++ (chunk ++ more)) ≡ text_of x.waits x.chunks ++ (chunk ++ more) =
          ap (λ (y : Blank). cr_before y.cr ++ drop y.at (bytes ++ (chunk ++ more))) (blanks_begun cr bytes (chunk ++ more) n ∙ x.begins)
          ∙ ap (λ (y : List ℕ). cr_before x.waits ++ y) (drop-append-le x.at bytes (chunk ++ more) (omega arith) ∙ ap (λ (y : List ℕ). y ++ (chunk ++ more)) (sym x.rest))
          ∙ sym (append_assoc (cr_before x.waits) (joined x.chunks) (chunk ++ more)) in
          subst DecidedSo (sym text) (by_row x.waits x.chunks s carry stage stated x.row 0 chunk (omega arith) refl g told (short_of _ _ text short))

      decides_there : (bytes : List ℕ) (l : Listener) (carry stage stated : List ℕ) → Come bytes l carry stage stated → HearsSo l chunk carry first stage stated r carry' stage' stated' → r.said ≡ Decided answer
          → suc (length (dump_in cr (bytes ++ (chunk ++ more)))) < 2 ^ 64 → DecidedSo (dump_in cr (bytes ++ (chunk ++ more)))
      decides_there bytes (Front kind' waits) carry stage stated x f told short = front_decides bytes kind' waits carry stage stated x f told short
      decides_there bytes (Within s) carry stage stated x f told short = within_decides bytes s carry stage stated x f told short
      decides_there bytes (Ready kind') carry stage stated x f told short = front_decides bytes kind' false carry stage stated x f told short

-- the call that decides is not refused before all else
pub open_decided : (kind : Kind) (cr : Bool) (first : ℕ) (carry₀ stage₀ stated₀ : List ℕ) → unfit first (length stage₀) (length stated₀) ≡ false
    → (bytes : List ℕ) (l : Listener) (carry stage stated : List ℕ) → Come kind cr first carry₀ stage₀ stated₀ bytes l carry stage stated
    → (chunk : List ℕ) (r : Step) (carry' stage' stated' : List ℕ) (answer : Loading) → Hears l chunk carry first stage stated r carry' stage' stated' → r.said ≡ Decided answer
    → HearsSo l chunk carry first stage stated r carry' stage' stated'
open_decided kind cr first carry₀ stage₀ stated₀ fit bytes l carry stage stated x chunk r carry' stage' stated' answer h told =
    open_call l chunk carry first stage stated r carry' stage' stated' h (λ e. let z : ◌≡◌ {A = ℕ} 0 1 = cc in absurd (omega arith)) (fit_there kind cr first carry₀ stage₀ stated₀ fit bytes l carry stage stated x)

pub dump_decides : DumpDecides
dump_decides kind cr first l₀ carry₀ stage₀ stated₀ b fit bytes l carry stage stated row chunk r carry' stage' stated' answer h told more page marks short even rows =
    let x = come kind cr first carry₀ stage₀ stated₀ fit b row in
    decides_there kind cr first carry₀ stage₀ stated₀ fit chunk r carry' stage' stated' answer more page marks even rows bytes l carry stage stated x
    (open_decided kind cr first carry₀ stage₀ stated₀ fit bytes l carry stage stated x chunk r carry' stage' stated' answer h told) told short

-- what was staged as a load states it is committed as that load leaves it
loaded_commits : (kind : Kind) (text : List ℕ) (first : ℕ) (page marks stage₀ stated₀ stage' stated' : List ℕ) (t : Tally)
    → AsLoad (way_of kind false).source text first page marks stage₀ (replicate (length stated₀) 0) (Ok t) stage' stated' → length page ≡ length stage₀ → length marks ≡ length stated₀
    → (done : Committed) (page' marks' : List ℕ) → Commits (Ready kind) stage' stated' page marks done page' marks'
    → (done ≡ Ok (Front kind false)) × (page' ≡ (load_window (way_of kind false).source text first page marks).page) × (marks' ≡ (load_window (way_of kind false).source text first page marks).marks)
loaded_commits kind text first page marks stage₀ stated₀ stage' stated' t load even rows done page' marks' ready =
    let src = (way_of kind false).source in
    let paints = subst (λ (n : ℕ). Painted (window first (length page)) (stated-in (steps_of src text)) stage₀ (replicate n 0) stage' stated') (sym rows) (load.paints (tallied t) load.answer) in
    let (fits, pages, all) = commits_as_load (way_of kind false).State src text first page marks stage₀ stage' stated' (tallied t) load.answer (sym even) paints ready.fits page' marks' ready.commits in
    (ready.answer ∙ ap (commit_by kind) fits, pages, all)

pub dump_commits : DumpCommits
dump_commits kind cr first l₀ carry₀ stage₀ stated₀ b fit bytes l carry stage stated row chunk r carry' stage' stated' t h told page marks done page' marks' c more short even rows =
    let (load, _, _, there) = dump_decides kind cr first l₀ carry₀ stage₀ stated₀ b fit bytes l carry stage stated row chunk r carry' stage' stated' (Ok t) h told more page marks short even rows in
    loaded_commits kind (dump_in cr (bytes ++ (chunk ++ more))) first page marks stage₀ stated₀ stage' stated' t load even rows done page' marks'
    (subst (λ (x : Listener). Commits x stage' stated' page marks done page' marks') there c)

-- ---- a pause

module _ (kind : Kind) (cr : Bool) (first : ℕ) (carry₀ stage₀ stated₀ : List ℕ) (r : Step) (carry' stage' stated' : List ℕ) (answer : Loading) (told : r.said ≡ Decided answer)
    (page marks : List ℕ) (even : length page ≡ length stage₀) (rows : length marks ≡ length stated₀) where
  abbrev EndedSo : (text : List ℕ) → Type 0
  EndedSo text = AsLoad (way_of kind false).source text first page marks stage₀ (replicate (length stated₀) 0) answer stage' stated' × (r.listener ≡ after_end kind answer)

  by_end : (s : Intake) (e : Ending) → r ≡ end_by s e → (e ≡ Some answer) × (r.listener ≡ after_end s.kind answer)
  by_end s (Some l) is =
      let h : Decided l ≡ Decided answer = sym (ap (λ (z : Step). z.said) is) ∙ told in
      let k : l ≡ answer = cc in
      (ap Some k, ap (λ (z : Step). z.listener) is ∙ ap (after_end s.kind) k)
  by_end s None is = let h : CarryTooSmall ≡ Decided answer = sym (ap (λ (z : Step). z.said) is) ∙ told in let z : ◌≡◌ {A = ℕ} 0 1 = cc in absurd (omega arith)

  ends_there : (bytes : List ℕ) (l : Listener) (carry stage stated : List ℕ) → Come kind cr first carry₀ stage₀ stated₀ bytes l carry stage stated → PausesSo l carry first stage stated r carry' stage' stated'
      → suc (length (dump_in cr bytes)) < 2 ^ 64 → EndedSo (dump_in cr bytes)
  ends_there bytes (Front kind' waits) carry stage stated x p short = let h = sym (ap (λ (z : Step). z.said) p.answer) ∙ told in let z : ◌≡◌ {A = ℕ} 0 1 = cc in absurd (omega arith)
  ends_there bytes (Ready kind') carry stage stated x p short = let h = sym (ap (λ (z : Step). z.said) p.answer) ∙ told in let z : ◌≡◌ {A = ℕ} 0 1 = cc in absurd (omega arith)
  ends_there bytes (Within s) carry stage stated x p short =
      let here = come_to kind false x.waits first carry₀ stage₀ (replicate (length stated₀) 0) (begun kind x.waits) refl x.chunks s carry stage stated x.row in
      let (e, f, is) = p.dump here.tail_is in
      let (k, there) = by_end s e is in
      let text : dump_in cr bytes ≡ text_of x.waits x.chunks =
      ap (λ (y : Blank). cr_before y.cr ++ drop y.at bytes) x.begins ∙ ap (λ (y : List ℕ). cr_before x.waits ++ y) (sym x.rest) in
      let load = row_ends kind false x.waits first carry₀ stage₀ (replicate (length stated₀) 0) (begun kind x.waits) refl x.chunks s carry stage stated x.row answer carry' stage' stated'
      (subst (λ (y : Ending). Finishes s carry first stage stated y carry' stage' stated') k f) page marks (subst (λ (y : List ℕ). suc (length y) < 2 ^ 64) text short) even (rows ∙ sym (length-replicate (length stated₀) 0)) in
      subst EndedSo (sym text) (load, there ∙ ap (λ (y : Kind). after_end y answer) here.kind_is)

pub dump_ends : DumpEnds
dump_ends kind cr first l₀ carry₀ stage₀ stated₀ b fit bytes l carry stage stated row r carry' stage' stated' answer h told page marks short even rows =
    ends_there kind cr first carry₀ stage₀ stated₀ r carry' stage' stated' answer told page marks even rows bytes l carry stage stated x (go (too_small l (length carry)) refl) short
  where
    x : Come kind cr first carry₀ stage₀ stated₀ bytes l carry stage stated
    x = come kind cr first carry₀ stage₀ stated₀ fit b row

    go : (t : Bool) → too_small l (length carry) ≡ t → PausesSo l carry first stage stated r carry' stage' stated'
    go true e = let q = sym (ap (λ (z : Step). z.said) (h.small e).answer) ∙ told in let z : ◌≡◌ {A = ℕ} 0 1 = cc in absurd (omega arith)
    go false e = h.else_so e (fit_there kind cr first carry₀ stage₀ stated₀ fit bytes l carry stage stated x)

pub end_commits : EndCommits
end_commits kind cr first l₀ carry₀ stage₀ stated₀ b fit bytes l carry stage stated row r carry' stage' stated' t h told page marks done page' marks' c short even rows =
    let (load, there) = dump_ends kind cr first l₀ carry₀ stage₀ stated₀ b fit bytes l carry stage stated row r carry' stage' stated' (Ok t) h told page marks short even rows in
    loaded_commits kind (dump_in cr bytes) first page marks stage₀ stated₀ stage' stated' t load even rows done page' marks'
    (subst (λ (x : Listener). Commits x stage' stated' page marks done page' marks') there c)

end_begins : (s : Intake) (carry : List ℕ) (first : ℕ) (stage stated carry' stage' stated' : List ℕ) (e : Ending) → Finishes s carry first stage stated e carry' stage' stated' → spoilt s carry ≡ false
    → unfit first (length stage) (length stated) ≡ false → BeginsText (end_by s e).listener s.kind false
end_begins s carry first stage stated carry' stage' stated' (Some (Ok t)) f big fit = (refl, refl)
end_begins s carry first stage stated carry' stage' stated' (Some (Err z)) f big fit = (refl, refl)
end_begins s carry first stage stated carry' stage' stated' None f big fit = absurd (f.ends big fit)

pauses_begin : (l : Listener) (carry : List ℕ) (first : ℕ) (stage stated : List ℕ) (r : Step) (carry' stage' stated' : List ℕ) → too_small l (length carry) ≡ false → unfit first (length stage) (length stated) ≡ false
    → PausesSo l carry first stage stated r carry' stage' stated' → BeginsText r.listener (kind_of l) false
pauses_begin (Front kind cr) carry first stage stated r carry' stage' stated' big fit p = subst (λ (z : Step). BeginsText z.listener kind false) (sym p.answer) (refl, refl)
pauses_begin (Ready kind) carry first stage stated r carry' stage' stated' big fit p = subst (λ (z : Step). BeginsText z.listener kind false) (sym p.answer) (refl, refl)
pauses_begin (Within s) carry first stage stated r carry' stage' stated' big fit p = go s.tail refl
  where
    go : (t : Bool) → s.tail ≡ t → BeginsText r.listener s.kind false
    go true e = subst (λ (z : Step). BeginsText z.listener s.kind false) (sym (p.tail e).0) (refl, refl)
    go false e =
        let (end, f, is) = p.dump e in
        subst (λ (z : Step). BeginsText z.listener s.kind false) (sym is) (end_begins s carry first stage stated carry' stage' stated' end f big fit)

pub pause_begins : PauseBegins
pause_begins l carry first stage stated r carry' stage' stated' h big fit = pauses_begin l carry first stage stated r carry' stage' stated' big fit (h.else_so big fit)

-- ---- what is passed over

module _ (kind : Kind) (first : ℕ) (carry₀ stage₀ stated₀ : List ℕ) (fit : unfit first (length stage₀) (length stated₀) ≡ false) where
  -- a row of the tail
  abbrev pub Passing : (bytes : List ℕ) → Listener → (carry stage stated : List ℕ) → Type 0
  Passing bytes (Front k c) carry stage stated = ⊥
  Passing bytes (Within s) carry stage stated = (chunks : List (List ℕ)) × Row first (new_tail kind) carry₀ stage₀ stated₀ chunks s carry stage stated × (joined chunks ≡ bytes)
  Passing bytes (Ready k) carry stage stated = ⊥

  pub tail_fit : (s : Intake) (carry stage stated : List ℕ) (chunks : List (List ℕ)) → Row first (new_tail kind) carry₀ stage₀ stated₀ chunks s carry stage stated → unfit first (length stage) (length stated) ≡ false
  tail_fit s carry stage stated chunks row =
      let here = come_to kind true false first carry₀ stage₀ stated₀ (new_tail kind) refl chunks s carry stage stated row in
      let a : length stage ≡ length stage₀ = ap length here.paints.page ∙ length_painted (window first (length stage₀)) here.placements 0 stage₀ in
      let b : length stated ≡ length stated₀ = here.paints.row.same_length in
      rw (a, b) fit

  passing_on : (bytes : List ℕ) (l : Listener) (carry stage stated : List ℕ) → Passing bytes l carry stage stated → (chunk : List ℕ) (r : Step) (carry' stage' stated' : List ℕ)
      → Hears l chunk carry first stage stated r carry' stage' stated' → r.said ≡ WantsMore → Passing (bytes ++ chunk) r.listener carry' stage' stated'
  passing_on bytes (Front k c) carry stage stated x chunk r carry' stage' stated' h more = absurd x
  passing_on bytes (Ready k) carry stage stated x chunk r carry' stage' stated' h more = absurd x
  passing_on bytes (Within s) carry stage stated (chunks, row, whole) chunk r carry' stage' stated' h more =
      let g : FedTo s 0 (length chunk) chunk carry first stage stated r carry' stage' stated' =
      open_call (Within s) chunk carry first stage stated r carry' stage' stated' h (λ e. let z : ◌≡◌ {A = ℕ} 0 1 = cc in absurd (omega arith)) (tail_fit s carry stage stated chunks row) in
      let (s', is, there) = wanted s 0 (length chunk) g.reply (sym (ap (λ (z : Step). z.said) g.answer) ∙ more) in
      let fed = subst (λ (y : Reply). Feeds s chunk carry first stage stated y carry' stage' stated') is g.feeds in
      subst (λ (l : Listener). Passing (bytes ++ chunk) l carry' stage' stated') (sym (ap (λ (z : Step). z.listener) g.answer ∙ there))
      (chunks ++ (chunk ∷ []), and_then chunk s' carry' stage' stated' row fed, joined_one chunks chunk ∙ ap (λ (y : List ℕ). y ++ chunk) whole)

  pub passing : {l : Listener} {bytes carry stage stated : List ℕ} → Listens first (Within (new_tail kind)) carry₀ stage₀ stated₀ bytes l carry stage stated → Passing bytes l carry stage stated
  unfolding joined
  passing calls.no_chunk = ([], no_chunk, refl)
  passing (calls.and_then {bytes} {l} {carry} {stage} {stated} chunk r carry' stage' stated' row h more) = passing_on bytes l carry stage stated (passing row) chunk r carry' stage' stated' h more

  module _ (bytes : List ℕ) (s : Intake) (carry stage stated : List ℕ) (chunks : List (List ℕ)) (row : Row first (new_tail kind) carry₀ stage₀ stated₀ chunks s carry stage stated) (whole : joined chunks ≡ bytes)
      (chunk : List ℕ) (r : Step) (carry' stage' stated' more : List ℕ) (short : suc (length (bytes ++ (chunk ++ more))) < 2 ^ 64) where
    abbrev PassesSo : Type 0
    PassesSo =
        ((answer : Loading) → r.said ≡ Decided answer → ⊥)
        × (r.said ≡ Passed
        → PassedThrough kind (bytes ++ (chunk ++ more)) (drop r.used chunk ++ more) × (r.used ≤ length chunk) × (r.listener ≡ Front kind false) × (stage' ≡ stage₀) × (Bytes stated₀ → stated' ≡ stated₀))

    -- by what the load replied
    by_reply : (a : Reply) → Feeds s chunk carry first stage stated a carry' stage' stated' → r ≡ step_by s 0 (length chunk) a → PassesSo
    by_reply (reply.WantsMore s') f e =
        let is = ap (λ (z : Step). z.said) e in
        (λ answer d. let z : ◌≡◌ {A = ℕ} 0 1 = cc in absurd (omega arith), λ p. let z : ◌≡◌ {A = ℕ} 0 1 = cc in absurd (omega arith))
    by_reply (reply.Decided l used) f e =
        let text : bytes ++ (chunk ++ more) ≡ joined chunks ++ (chunk ++ more) = ap (λ (y : List ℕ). y ++ (chunk ++ more)) (sym whole) in
        let (is, through, inside, page, row_is) = tail_decides kind false first carry₀ stage₀ stated₀ (new_tail kind) refl chunks s carry stage stated row chunk l used carry' stage' stated' f fit more
        (subst (λ (y : List ℕ). suc (length y) < 2 ^ 64) text short) in
        let here = come_to kind true false first carry₀ stage₀ stated₀ (new_tail kind) refl chunks s carry stage stated row in
        let n : 0 + used ≡ used = omega arith in
        let end : r ≡ step Passed used (Front kind false) =
        e ∙ ap (λ (t : Bool). decided_by t s.kind l (0 + used)) here.tail_is ∙ ap (λ (k : Kind). decided_by true k l (0 + used)) here.kind_is
        ∙ ap (λ (x : Loading). decided_by true kind x (0 + used)) is ∙ ap (λ (m : ℕ). step Passed m (Front kind false)) n in
        let at : used ≡ r.used = sym (ap (λ (z : Step). z.used) end) in
        let said-is = ap (λ (z : Step). z.said) end in (
          λ answer d. let z : ◌≡◌ {A = ℕ} 0 1 = cc in absurd (omega arith),
          λ _. (
            subst (λ (m : ℕ). PassedThrough kind (bytes ++ (chunk ++ more)) (drop m chunk ++ more)) at (subst (λ (y : List ℕ). PassedThrough kind y (drop used chunk ++ more)) (sym text) through),
            omega (arith, at, inside),
            ap (λ (z : Step). z.listener) end,
            page,
            row_is,
          ),
        )
    by_reply reply.CarryTooSmall f e =
        let is = ap (λ (z : Step). z.said) e in
        (λ answer d. let z : ◌≡◌ {A = ℕ} 0 1 = cc in absurd (omega arith), λ p. let z : ◌≡◌ {A = ℕ} 0 1 = cc in absurd (omega arith))

    -- with 18 nothing is decided
    by_tests : Hears (Within s) chunk carry first stage stated r carry' stage' stated' → PassesSo
    by_tests h = go (too_small (Within s) (length carry)) refl
      where
        go : (t : Bool) → too_small (Within s) (length carry) ≡ t → PassesSo
        go true t =
            let is = ap (λ (z : Step). z.said) (h.small t).answer in
            (λ answer d. let z : ◌≡◌ {A = ℕ} 0 1 = cc in absurd (omega arith), λ p. let z : ◌≡◌ {A = ℕ} 0 1 = cc in absurd (omega arith))
        go false t = let g = h.else_so t (tail_fit s carry stage stated chunks row) in by_reply g.reply g.feeds g.answer

  passes : (bytes : List ℕ) (l : Listener) (carry stage stated : List ℕ) → Passing bytes l carry stage stated → (chunk : List ℕ) (r : Step) (carry' stage' stated' : List ℕ)
      → Hears l chunk carry first stage stated r carry' stage' stated' → (more : List ℕ) → suc (length (bytes ++ (chunk ++ more))) < 2 ^ 64
      → ((answer : Loading) → r.said ≡ Decided answer → ⊥)
      × (r.said ≡ Passed
      → PassedThrough kind (bytes ++ (chunk ++ more)) (drop r.used chunk ++ more) × (r.used ≤ length chunk) × (r.listener ≡ Front kind false) × (stage' ≡ stage₀) × (Bytes stated₀ → stated' ≡ stated₀))
  passes bytes (Front k c) carry stage stated x chunk r carry' stage' stated' h more short = absurd x
  passes bytes (Ready k) carry stage stated x chunk r carry' stage' stated' h more short = absurd x
  passes bytes (Within s) carry stage stated (chunks, row, whole) chunk r carry' stage' stated' h more short =
      by_tests bytes s carry stage stated chunks row whole chunk r carry' stage' stated' more short h

pub tail_passes : TailPasses
tail_passes kind first carry₀ stage₀ stated₀ fit bytes l carry stage stated row chunk r carry' stage' stated' h more short =
    passes kind first carry₀ stage₀ stated₀ fit bytes l carry stage stated (passing kind first carry₀ stage₀ stated₀ fit row) chunk r carry' stage' stated' h more short
