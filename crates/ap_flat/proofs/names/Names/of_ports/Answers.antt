use Rattle.ap_net.specs.declared.net.Port.{Port}
use Rattle.ap_flat.proofs.NameLists.{names_more}
use Rattle.ap_flat.proofs.names.Names.of_ports.Goals as goal

pub loop-port-preserved : goal.loop-port-preserved
loop-port-preserved c =
    names_more (λ (p : Port). p.name) c.args.ports.now c.loop-port.port-index c.port-item.result c.as_str.result.now c.loop-port.names _ c.requires c.loop-port-test.true c.port-item.is
    c.as_str.ensures c.loop-port.invariant c.in_ok-add.ensures
