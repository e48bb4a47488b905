use Rattle.std.proofs.Common.{refl}
use Rattle.ap_net.proofs.Laws.{IsNotNumbered-other}
use Rattle.ap_signals.specs.NetRuns.{file_part}
use Rattle.ap_front.proofs.PortNets.{ports_go_on}
use Rattle.ap_lead.proofs.store.make_lead.Goals as goal

pub store_files-requires-clause-ports : goal.store_files-requires-clause-ports
store_files-requires-clause-ports c = ports_go_on c.args.design.now c.declare.new.out c.drive.new.out c.in_ok-declared.declared.ports c.in_ok-drive.ensures.extends c.in_ok-declared.ensures.ports

pub store_files-requires-clause-names : goal.store_files-requires-clause-names
store_files-requires-clause-names c = λ file f le at. c.in_ok-drive.ensures.names (file_part f) (IsNotNumbered-other (file_part f) refl) (c.in_ok-declared.ensures.names.files f)
