use Rattle.std.proofs.Common.{rules, tests, ◌∙◌}
use Rattle.std.proofs.lemmas.Iterator.{YieldsList-from_slice}
use Rattle.std.proofs.lemmas.Iterator.Search.{find_from_yields_List}
use Rattle.ap_front.specs.declared.ports.GroupPorts.{GroupPorts}
use Rattle.ap_lead.specs.Writes.{is_of}
use Rattle.ap_lead.proofs.writes.outputs_of.Goals as goal

pub returns : goal.returns
returns c =
    let found = find_from_yields_List (λ (g : GroupPorts). is_of c.args.port g) _ _ c.find.result c.find.ensures.ran (YieldsList-from_slice c.args.groups.now cc) (λ x b q k. search (rules, tests)) in
    c.copied.ensures ∙ found
