use Rattle.std.proofs.Common.{◌≡◌, map, take}
use Rattle.ap_net.specs.Outside.{InPort}
use Rattle.ap_flat.proofs.outside.widths_of.Given as goal

abbrev pub invariant-loop-input : goal.invariant-loop-input
invariant-loop-input l = l.widths ≡ map (λ (p : InPort). p.width) (take l.input-index l.inputs)
