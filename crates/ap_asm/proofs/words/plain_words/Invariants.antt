use Rattle.std.proofs.Common.{take}
use Rattle.ap_bits.specs.Beside.{EachBeside}
use Rattle.ap_asm.specs.Words.{ArePlainWords}
use Rattle.ap_asm.proofs.words.plain_words.Given as goal

-- the words of the groups so far
abbrev pub invariant-loop-group : goal.invariant-loop-group
invariant-loop-group l = EachBeside (ArePlainWords l.design) (take l.group-index l.source.groups) l.words
