-- What can be relied on.
-- Assumes nothing.
use Prim.Native.Nat.{ℕ}
use mathlib.Core.Path.{◌≡◌, refl, ◌∙◌}
use mathlib.Core.Logic.{◌⊎◌, inl, inr}
use mathlib.Core.Bool.{true}
use mathlib.Core.List.Memᴰ
use mathlib.Core.List.{List, [], ◌∷◌, Memᴰ}
use Rattle.reader.specs.Lines.{lines}
use Rattle.reader.specs.Row.{row}
use Rattle.steps.specs.Source.{steps_of}
use Rattle.intel.specs.Placing.{from_start, intel_by}
use Rattle.loader.proofs.Demand3.{what_is_stored}
use Rattle.salvage.specs.Salvage.{fates, saved, clean}
use Rattle.salvage.specs.Standing.{Stands, broken_off, same, damaged, StretchStands, DiffersInRefused, no_lines, equal, instead, Among, none, this, over}
use Rattle.salvage.specs.Claims.{SalvageInOrder, SalvageIsStated, AskedIsACase, AsAsked, LoadedIsStated, UndamagedStays}
use Rattle.salvage.proofs.Stating.{stated_there, all_stated_there}
use Rattle.salvage.proofs.Clean.{clean_states}

pub salvage_in_order : SalvageInOrder
unfolding steps_of intel_by saved fates row
salvage_in_order text undamaged s u = rw (clean_states text) (stated_there s true 1 1 from_start from_start (λ e. refl) u)

among_in : {A : Type 0} {xs ys : List A} → Among xs ys → (x : A) → Memᴰ x xs → Memᴰ x ys
among_in none x h = absurd (Memᴰ.not-nil h)
among_in (this {x = y} {xs = xs} {ys = ys} a) x h = go (Memᴰ.cases_cons h) (λ m. among_in a x m)
  where
    go : (x ≡ y) ⊎ Memᴰ x xs → (Memᴰ x xs → Memᴰ x ys) → Memᴰ x (y ∷ ys)
    go (inl e) below = Memᴰ.head e
    go (inr m) below = Memᴰ.tail (below m)
among_in (over y a) x h = Memᴰ.tail (among_in a x h)

pub salvage_is_stated : SalvageIsStated
salvage_is_stated text undamaged s u p h = among_in (salvage_in_order text undamaged s u) p h

-- the first stands for all of it, the others for nothing
pub stretch_stands : StretchStands
stretch_stands l [] gap ls us ((r, h), hs) g s = damaged r gap h g s
stretch_stands l (x ∷ rs) gap ls us ((r, h), hs) g s = damaged r gap h g (stretch_stands x rs [] ls us hs tt s)

-- a refused line that stands for one line stands for a stretch of one
line_for_line : {ls us : List (List ℕ)} → DiffersInRefused ls us → Stands ls us
line_for_line no_lines = broken_off
line_for_line (equal d) = same (line_for_line d)
line_for_line (instead {u = u} r h g d) = damaged r (u ∷ []) h (g, tt) (line_for_line d)

pub asked_is_a_case : AskedIsACase
asked_is_a_case captured undamaged d = line_for_line d

pub as_asked : AsAsked
as_asked text undamaged d u = salvage_is_stated text undamaged (line_for_line d) u

pub loaded_is_stated : LoadedIsStated
loaded_is_stated text undamaged s u first page marks tally e i h m =
    let p = (what_is_stored (clean text) first page marks tally e i h).marked_holds m in
    salvage_is_stated text undamaged s u _ (rw p.whole (Memᴰ.append_right p.before (Memᴰ.head refl)))

pub undamaged_stays : UndamagedStays
unfolding steps_of intel_by saved fates row
undamaged_stays text u = clean_states text ∙ all_stated_there (lines text) 1 1 from_start u
