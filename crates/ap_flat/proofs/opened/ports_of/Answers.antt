use Rattle.std.proofs.Common.{◌-◌, length, get_or, ap, ◌∙◌}
use Rattle.ap_flat.proofs.TopPorts.{last_ports}
use Rattle.ap_flat.proofs.opened.ports_of.Goals as goal

pub returns : goal.returns
returns c =
    let m = c.index-modules-modules.result in
    last_ports c.args.net.now m c.ports.result.now c.rules.ensures (c.index-modules-modules.is ∙ ap (λ ms. get_or ms (length ms - 1) m) c.modules-modules.ensures) c.ports.ensures
