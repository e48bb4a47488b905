use Rattle.std.proofs.Common.{◌≡◌, take}
use Rattle.ap_asm.proofs.assembling.in_32_bits.Given as goal

abbrev pub invariant-loop-number : goal.invariant-loop-number
invariant-loop-number l = l.list ≡ take l.number-index l.numbers
