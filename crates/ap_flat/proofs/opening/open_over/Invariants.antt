use Rattle.std.proofs.Common.{◌≡◌, drop}
use Rattle.ap_net.specs.Flat.{opened_over}
use Rattle.ap_flat.proofs.OpeningSteps.{opened_from}
use Rattle.ap_flat.proofs.opening.open_over.Given as goal

abbrev pub invariant-loop-instance : goal.invariant-loop-instance
invariant-loop-instance l = opened_from l.modules (drop l.instance-index l.top.instances) l.opening ≡ opened_over l.modules l.top
