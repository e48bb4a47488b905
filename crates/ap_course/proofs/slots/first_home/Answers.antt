use Rattle.std.proofs.Common.{rules, tests, ◌==◌, ◌∙◌}
use Rattle.std.proofs.lemmas.Iterator.{YieldsList-from_slice}
use Rattle.std.proofs.lemmas.Iterator.Search.{find_from_yields_List}
use Rattle.ap_pipe.specs.declared.table.Home.{Home}
use Rattle.ap_course.proofs.slots.first_home.Goals as goal

pub returns : goal.returns
returns c =
    let found = find_from_yields_List (λ (h : Home). h.local == c.args.local) _ _ c.find.result c.find.ensures.ran (YieldsList-from_slice c.args.homes.now cc) (λ x b q k. search (rules, tests)) in
    c.copied.ensures ∙ found
