use Rattle.ap_net.proofs.Placing.{Left, Merging}
use Rattle.ap_net.proofs.builder.connected.Given as goal

abbrev pub invariant-loop-port : goal.invariant-loop-port
invariant-loop-port l = Left l.ports l.inputs l.outputs l.port-index l.used l.driven × Merging l.ports l.inputs l.outputs l.nets.items l.port-index l.used l.driven
