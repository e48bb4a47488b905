use Rattle.std.proofs.Common.{◌∷◌, take}
use Rattle.ap_bits.specs.Beside.{EachBeside}
use Rattle.ap_asm.specs.Words.{IsWordAmong}
use Rattle.ap_asm.proofs.words.group_words.Given as goal

-- the words so far
abbrev pub invariant-loop-line : goal.invariant-loop-line
invariant-loop-line l = EachBeside (IsWordAmong l.design l.landings) (l.group.first ∷ take l.line-index l.group.in_slots) l.words
