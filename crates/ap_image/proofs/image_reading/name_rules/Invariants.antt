use Rattle.std.proofs.Common.{take}
use Rattle.std.specs.List.{AllByRecursion as Each}
use Rattle.ap_bits.specs.Names.{IsName}
use Rattle.ap_image.specs.declared.shape.MemShape.{MemShape}
use Rattle.ap_image.proofs.image_reading.name_rules.Given as goal

abbrev pub invariant-loop-mem : goal.invariant-loop-mem
invariant-loop-mem l = Each (λ (m : MemShape). IsName m.name) (take l.mem-index l.mems)
