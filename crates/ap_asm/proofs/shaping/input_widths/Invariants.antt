use Rattle.std.proofs.Common.{◌≡◌, map, take}
use Rattle.ap_desc.specs.declared.design.InPort.{InPort}
use Rattle.ap_asm.proofs.shaping.input_widths.Given as goal

-- the widths of the ports so far
abbrev pub invariant-loop-input : goal.invariant-loop-input
invariant-loop-input l = l.widths ≡ map (λ (p : InPort). p.width) (take l.input-index l.inputs)
