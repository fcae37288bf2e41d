-- `digits::first_other` meets its contract: the digits that lead are those before the first byte that is not a digit.
-- Assumes nothing.
use Rattle.std.proofs.Common.{◌≡◌, ◌∙◌, rules, tests}
use Rattle.std.specs.List.{position}
use Rattle.std.proofs.lemmas.Iterator.{YieldsList-from_slice}
use Rattle.std.proofs.lemmas.Iterator.Search.{position_from_yields_List}
use Rattle.digits.proofs.Leading.{other, lead_position}
use Rattle.digits.proofs.first_other.Goals as goal

pub returns : goal.returns
returns c =
    let ds = c.args.ds.now in
    let e : c.position.result ≡ position other ds =
    position_from_yields_List other _ _ c.position.result c.position.ensures.ran (YieldsList-from_slice ds cc) (λ x b q k. search (rules, tests)) in
    record { answer = c.unwrap_or.ensures ∙ lead_position ds _ e }
