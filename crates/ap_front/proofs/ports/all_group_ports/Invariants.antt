use Rattle.ap_model.specs.Ports.{write_groups}
use Rattle.ap_front.specs.Ports.{ArePortsOf, group_ports_of}
use Rattle.ap_front.proofs.Porting.{DeclaresTo}
use Rattle.ap_front.proofs.ports.all_group_ports.Given as goal

abbrev pub invariant-loop-group : goal.invariant-loop-group
invariant-loop-group l = record {
  made : DeclaresTo (group_ports_of l.design) (ArePortsOf l.design) (write_groups l.design) l.group-index l.fn.out l.out l.made;
}
