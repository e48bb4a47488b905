use Rattle.std.proofs.Common.{rules, tests, ◌∙◌}
use Rattle.std.proofs.lemmas.Iterator.{YieldsList-from_slice}
use Rattle.std.proofs.lemmas.Iterator.Search.{find_from_yields_List}
use Rattle.ap_desc.specs.declared.design.Micro.{Micro}
use Rattle.ap_bank.specs.PortStages.{writes_cell}
use Rattle.ap_bank.proofs.stages.first_write.Goals as goal

pub returns : goal.returns
returns c =
    let found = find_from_yields_List (λ (m : Micro). writes_cell c.args.file c.args.number m) _ _ c.find.result c.find.ensures.ran (YieldsList-from_slice c.args.micros.now cc) (λ x b q k. search (rules, tests)) in
    c.copied.ensures ∙ found
