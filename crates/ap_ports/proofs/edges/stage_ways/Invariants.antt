use Rattle.ap_ports.specs.Graphs.{IsOpenAfter, lines_before}
use Rattle.ap_ports.proofs.edges.stage_ways.Given as goal

abbrev pub invariant-loop-number : goal.invariant-loop-number
invariant-loop-number l = IsOpenAfter l.design l.stage (lines_before l.design l.number) l.ways
