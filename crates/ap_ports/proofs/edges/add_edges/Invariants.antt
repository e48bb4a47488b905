use Rattle.ap_ports.proofs.Steps.{IsUnderWay}
use Rattle.ap_ports.proofs.edges.add_edges.Given as goal

abbrev pub invariant-loop-micro : goal.invariant-loop-micro
invariant-loop-micro l = IsUnderWay l.design l.stage l.number l.micro-items l.micro-index l.locals l.ways
