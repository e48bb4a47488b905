use Rattle.std.proofs.Common.{rules, tests, ◌==◌, ◌∙◌}
use Rattle.std.proofs.lemmas.Iterator.{YieldsList-from_slice}
use Rattle.std.proofs.lemmas.Iterator.Search.{find_from_yields_List}
use Rattle.ap_stage.specs.declared.node.PortUse.{PortUse}
use Rattle.ap_stage.proofs.node.first_use.Goals as goal

pub returns : goal.returns
returns c =
    let found = find_from_yields_List (λ (u : PortUse). u.port == c.args.port) _ _ c.find.result c.find.ensures.ran (YieldsList-from_slice c.args.uses.now cc) (λ x b q k. search (rules, tests)) in
    c.copied.ensures ∙ found
