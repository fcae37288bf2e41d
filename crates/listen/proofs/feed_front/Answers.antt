-- `feed_front`: no more bytes were passed than there are, and a new load is fed what is left.
-- Assumes nothing.
use Rattle.std.proofs.Common.{◌≤◌, length, sym, subst, arith, length-drop, length-take}
use Rattle.listen.specs.declared.Blank.{Blank}
use Rattle.listen.proofs.Blanks.{blanks_fit}
use Rattle.listen.proofs.Testing.{feeds_fit}
use Rattle.listen.proofs.feed_front.Goals as goal

pub slice_bounds-feed-count : goal.slice_bounds-feed-count
slice_bounds-feed-count c =
    let a = c.args in
    subst (λ (b : Blank). b.at ≤ length a.chunk.now) (sym c.pass_blank-blank.ensures) (blanks_fit a.cr a.chunk.now)

pub slice_bounds-feed-start : goal.slice_bounds-feed-start
slice_bounds-feed-start c =
    let a = c.args in
    subst (λ (b : Blank). b.at ≤ length a.chunk.now) (sym c.pass_blank-blank.ensures) (blanks_fit a.cr a.chunk.now)

pub tell-requires : goal.tell-requires
tell-requires c =
    let a = c.args in
    let f = c.feed-reply in
    let h = subst (λ (b : Blank). b.at ≤ length a.chunk.now) (sym c.pass_blank-blank.ensures) (blanks_fit a.cr a.chunk.now) in
    feeds_fit c.start-s.result _ a.carry.now a.first a.stage.now _ f.result _ _ _ f.ensures c.pass_blank-blank.result.at (length a.chunk.now)
    (simp (length-take, length-drop) (omega (arith, h)))
