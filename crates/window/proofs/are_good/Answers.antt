-- `window::are_good` meets its contract: what `all` says of the windows is what the definition says, one after the other.
-- Assumes nothing.
use Rattle.std.proofs.Common.{refl, ◌∙◌, rules, tests}
use Rattle.std.proofs.lemmas.Iterator.{YieldsList-from_slice}
use Rattle.std.proofs.lemmas.Iterator.Search.{all_from_yields_List}
use Rattle.std.proofs.lemmas.List.Recursion.{same_from_clauses}
use Rattle.std.specs.List.{list_all}
use mathlib.Core.Bool.{Bool, ◌&&◌}
use Rattle.window.specs.declared.Row.{Row}
use Rattle.window.specs.Table.{good_row, good_rows}
use Rattle.window.proofs.are_good.Goals as goal

pub returns : goal.returns
returns c =
    let good = good_row c.args.pool in
    all_from_yields_List good _ _ _ c.all.ensures.ran (YieldsList-from_slice c.args.rows.now cc) (λ x b q k. search (rules, tests))
    ∙ same_from_clauses (list_all good) (good_rows c.args.pool) (λ (r : Row) (b : Bool). good r && b) refl (λ _ _. refl) (λ _ _. refl) c.args.rows.now
