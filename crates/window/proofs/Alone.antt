-- One window that fills the page, as a table of its own.
-- Assumes nothing.
use mathlib.Core.Path.{◌≡◌, refl, ap, ◌∙◌}
use Prim.Native.Nat.{ℕ, ◌+◌, ◌^◌}
use native.Mathlib.Omega.{arith}
use mathlib.Core.Bool.{Bool, false}
use mathlib.Core.List.{List}
use lib.ListN.{length}
use borrow.Author.Tests.{le-leb}
use Rattle.steps.specs.Aliases.{Loading}
use Rattle.steps.specs.Steps.{Placement, Step, nothing_yet, decision, verdict}
use Rattle.steps.specs.Told.{told_loading}
use Rattle.window.specs.Window.{within, window, unfit}
use Rattle.window.specs.Promises.{Painted}
use Rattle.window.specs.Table.{alone, site_of, inside_of, Sound}
use Rattle.window.proofs.Tests.{good_window}
use Rattle.window.proofs.Table.{inside_same, site_same}

pub inside_is : (first size : ℕ) → inside_of 1 (alone first size) ≡ within first size
inside_is first size = λ k a. inside_same 1 first size 0 a k

site_is : (first size : ℕ) → site_of 1 (alone first size) ≡ window first size
site_is first size = λ k i. site_same 1 first size 0 i k

pub alone_judged : (first size : ℕ) (s : List Step) (a : Loading) → told_loading a ≡ verdict (decision (inside_of 1 (alone first size)) nothing_yet s)
    → told_loading a ≡ verdict (decision (within first size) nothing_yet s)
alone_judged first size s a e = e ∙ ap (λ (inside : ℕ → Bool). verdict (decision inside nothing_yet s)) (inside_is first size)

pub alone_painted : (first size : ℕ) (ps : List Placement) (page₀ marks₀ page' marks' : List ℕ) → Painted (site_of 1 (alone first size)) ps page₀ marks₀ page' marks'
    → Painted (window first size) ps page₀ marks₀ page' marks'
alone_painted first size ps page₀ marks₀ page' marks' p = rw (site_is first size) at p

pub alone_sound : (first : ℕ) (page marks : List ℕ) → unfit first (length page) (length marks) ≡ false → Sound (length page) (alone first (length page))
alone_sound first page marks u =
    let w = good_window first page marks u in
    (rw (le-leb (first + length page) (2 ^ 32) w.below, le-leb (0 + length page) (length page) (omega arith)) refl, refl)
