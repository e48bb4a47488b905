use Rattle.std.proofs.Common.{◌↔◌, drop, map}
use Rattle.std.specs.List.{AllByRecursion as Each, zip}
use Rattle.std.specs.String.{string_bytes}
use Rattle.ap_top.specs.Commands.{IsFitting}
use Rattle.ap_top.proofs.command.are_fitting.Given as goal

-- the words so far are such as their places ask for, so all of them are where the rest is
abbrev pub invariant-loop-i : goal.invariant-loop-i
invariant-loop-i l = Each IsFitting (drop l.i (zip l.slots (map string_bytes l.words))) ↔ Each IsFitting (zip l.slots (map string_bytes l.words))
