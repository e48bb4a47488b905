use Rattle.std.proofs.Common.{◌++◌, List, map, ap, ◌∙◌}
use Rattle.ap_net.specs.declared.net.FlatNet.{FlatNet}
use Rattle.ap_net.specs.declared.net.ModuleNet.{ModuleNet}
use Rattle.ap_net.specs.declared.net.Port.{Port}
use Rattle.ap_net.specs.declared.net.Net.{Net}
use Rattle.ap_net.specs.declared.net.RegNet.{RegNet}
use Rattle.ap_net.specs.Modules.{port_net, wire_net, reg_net}
use Rattle.ap_flat.specs.Opening.{net_in}
use Rattle.ap_flat.proofs.OpeningSteps.{nets_together}
use Rattle.ap_flat.proofs.opening.put_nets.Goals as goal

pub returns : goal.returns
returns c =
    let old : List FlatNet = c.args.nets.now.items in
    let f : ModuleNet → FlatNet = net_in c.args.place.top c.args.place.part in
    c.in_ok-put_regs.ensures
    ∙ (λ i. (c.in_ok-put_wires.ensures
    ∙ (λ j. (c.in_ok-put_ports.ensures ∙ ap (λ (l : List Port). old ++ map (λ (p : Port). f (port_net p)) l) c.ports.ensures) j ++ map (λ (n : Net). f (wire_net n)) (c.wires.ensures j))) i
    ++ map (λ (r : RegNet). f (reg_net r)) (c.regs.ensures i))
    ∙ nets_together f old c.args.whole.now
