use Rattle.std.proofs.Common.{◌≡◌, map, take}
use Rattle.ap_dist.specs.Distances.{instr_out}
use Rattle.ap_asm.proofs.placing.outs_of.Given as goal

abbrev pub invariant-loop-instr : goal.invariant-loop-instr
invariant-loop-instr l = l.outs ≡ map (instr_out l.design) (take l.instr l.design.instrs)
