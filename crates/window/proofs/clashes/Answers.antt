-- `window::clashes` meets its contract: what `any` says of the windows is what the definition says, one after the other.
-- Assumes nothing.
use Rattle.std.proofs.Common.{refl, ◌∙◌, rules, tests}
use Rattle.std.proofs.lemmas.Iterator.{YieldsList-from_slice}
use Rattle.std.proofs.lemmas.Iterator.Search.{any_from_yields_List}
use Rattle.std.proofs.lemmas.List.Recursion.{same_from_clauses}
use Rattle.std.specs.List.{list_any}
use mathlib.Core.Bool.{Bool, ◌||◌}
use Rattle.window.specs.declared.Row.{Row}
use Rattle.window.specs.Table.{clash, clashes}
use Rattle.window.proofs.clashes.Goals as goal

pub returns : goal.returns
returns c =
    let with = clash c.args.row.now in
    any_from_yields_List with _ _ _ c.any.ensures.ran (YieldsList-from_slice c.args.rows.now cc) (λ x b q k. search (rules, tests))
    ∙ same_from_clauses (list_any with) (clashes c.args.row.now) (λ (r : Row) (b : Bool). with r || b) refl (λ _ _. refl) (λ _ _. refl) c.args.rows.now
