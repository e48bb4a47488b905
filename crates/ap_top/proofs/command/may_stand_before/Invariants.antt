use Rattle.std.proofs.Common.{◌↔◌, drop, map}
use Rattle.std.specs.List.{AllByRecursion as Each, zip}
use Rattle.std.specs.String.{string_bytes}
use Rattle.ap_top.specs.Commands.{MayStandWith}
use Rattle.ap_top.proofs.command.may_stand_before.Given as goal

-- the word may stand with those so far, so with all of them where it may with the rest
abbrev pub invariant-loop-i : goal.invariant-loop-i
invariant-loop-i l = Each (MayStandWith (l.slot, l.word)) (drop l.i (zip l.slots (map string_bytes l.words))) ↔ Each (MayStandWith (l.slot, l.word)) (zip l.slots (map string_bytes l.words))
