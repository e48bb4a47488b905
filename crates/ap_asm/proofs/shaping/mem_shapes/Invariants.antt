use Rattle.std.proofs.Common.{◌≡◌, map, take}
use Rattle.ap_desc.specs.declared.design.Mem.{Mem}
use Rattle.ap_asm.proofs.shaping.mem_shapes.Given as goal

-- the shapes of the memories so far
abbrev pub invariant-loop-mem : goal.invariant-loop-mem
invariant-loop-mem l = l.shapes ≡ map (λ (m : Mem). record { name = m.name; address = m.address; width = m.width }) (take l.mem-index l.mems)
