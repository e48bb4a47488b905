use Rattle.std.proofs.Common.{◌≡◌, map, take, Some}
use Rattle.ap_flat.specs.declared.driver.Driver.{Driver}
use Rattle.ap_eval.specs.Ops.{constant_of}
use Rattle.ap_eval.proofs.plan.constants_of.Given as goal

abbrev pub invariant-loop-driver : goal.invariant-loop-driver
invariant-loop-driver l = l.values.items ≡ map (λ (d : Driver). constant_of (Some d)) (take l.driver-index l.flat.drivers)
