use Rattle.std.proofs.Common.{◌<◌, ◌^◌, ◌∙◌, sym, ap, subst, arith}
use Rattle.ap_net.specs.Names.{IsNetName}
use Rattle.ap_parts.specs.Parts.{kind_module_name}
use Rattle.ap_parts.proofs.ModuleNames.{IsNetName-card}
use Rattle.ap_parts.proofs.modules.kind_module.Goals as goal

pub new-requires : goal.new-requires
new-requires g c =
    let small : c.args.width < 2 ^ 64 = omega arith in
    subst IsNetName (sym (c.as_bytes.ensures.value ∙ c.in_ok-name.ensures.ok ∙ ap (λ name. kind_module_name name c.args.width) c.name.ensures.0))
    (IsNetName-card _ c.args.width c.name.ensures.1 small)
