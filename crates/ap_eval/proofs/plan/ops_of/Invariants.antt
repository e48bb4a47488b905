use Rattle.std.proofs.Common.{◌≡◌, ◌++◌, drop}
use Rattle.ap_eval.specs.Ops.{ops_of}
use Rattle.ap_eval.proofs.plan.ops_of.Given as goal

abbrev pub invariant-loop-net : goal.invariant-loop-net
invariant-loop-net l = l.ops.items ++ ops_of l.flat l.roots (drop l.net-index l.flat.order) ≡ ops_of l.flat l.roots l.flat.order
