use Rattle.std.proofs.Common.{◌∙◌}
use Rattle.ap_net.specs.Modules.{ModuleText}
use Rattle.ap_flat.proofs.NameLists.{names_more}
use Rattle.ap_flat.proofs.names.Names.of_modules.Goals as goal

pub loop-whole-preserved : goal.loop-whole-preserved
loop-whole-preserved c =
    names_more (λ (m : ModuleText). m.name) c.args.modules.now c.loop-whole.whole-index c.whole-item.result c.as_str.result.now c.loop-whole.names _ c.requires c.loop-whole-test.true c.whole-item.is
    (c.as_str.ensures ∙ c.name.ensures) c.loop-whole.invariant c.in_ok-add.ensures
