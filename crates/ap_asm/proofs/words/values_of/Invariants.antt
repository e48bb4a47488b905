use Rattle.std.proofs.Common.{◌≡◌, map, take}
use Rattle.ap_asm.specs.Words.{value_among}
use Rattle.ap_asm.proofs.words.values_of.Given as goal

abbrev pub invariant-loop-operand : goal.invariant-loop-operand
invariant-loop-operand l = l.values.items ≡ map (value_among l.landings) (take l.operand-index l.operands)
