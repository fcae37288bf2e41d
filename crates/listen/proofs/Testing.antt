-- A load that is fed decides at a place of what it was fed.
-- Assumes nothing.
use Prim.Native.Nat.{ℕ, ◌+◌, ◌≤◌}
use mathlib.Core.Path.{◌≡◌, refl, sym, subst}
use mathlib.Core.Bool.{Bool, true, false}
use mathlib.Core.List.{List}
use native.Mathlib.Omega.{arith}
use lib.ListN.{length}
use Rattle.window.specs.Window.{unfit}
use Rattle.intake.specs.declared.Intake.{Intake}
use Rattle.intake.specs.declared.Reply.{Reply}
use Rattle.intake.specs.declared.Reply.TheVariants as reply
use Rattle.intake.specs.Ways.{way_of}
use Rattle.intake.specs.Intake.{spoilt, Feeds, FeedsSo}
use Rattle.listen.specs.Helpers.{Fits}

module _ (s : Intake) (chunk carry : List ℕ) (first : ℕ) (stage stated : List ℕ) (a : Reply) (carry' stage' stated' : List ℕ) (x : Feeds s chunk carry first stage stated a carry' stage' stated') where
  -- a decision comes at a place of what was fed
  pub feeds_fit : (before whole : ℕ) → before + length chunk ≤ whole → Fits before whole a
  feeds_fit before whole h = go (spoilt s carry) refl (unfit first (length stage) (length stated)) refl
    where
      fits : (y : Reply) → FeedsSo (way_of s.kind s.tail) first s chunk carry stage stated y carry' stage' stated' → Fits before whole y
      fits (reply.WantsMore s') f = tt
      fits (reply.Decided l used) f = omega (arith, f.0.used_fits)
      fits reply.CarryTooSmall f = tt

      go : (t : Bool) → spoilt s carry ≡ t → (u : Bool) → unfit first (length stage) (length stated) ≡ u → Fits before whole a
      go true e u f = subst (Fits before whole) (sym (x.small e).0) tt
      go false e true f = subst (Fits before whole) (sym (x.bad_window e f).0) (omega arith)
      go false e false f = fits a (x.feeds e f)
