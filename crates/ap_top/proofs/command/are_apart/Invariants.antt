use Rattle.std.proofs.Common.{◌↔◌, drop, map}
use Rattle.std.specs.List.{zip}
use Rattle.std.specs.String.{string_bytes}
use Rattle.ap_top.specs.Commands.{AreWordsApart}
use Rattle.ap_top.proofs.command.are_apart.Given as goal

-- the words so far may stand with those after them, so all are apart where the rest is
abbrev pub invariant-loop-i : goal.invariant-loop-i
invariant-loop-i l = AreWordsApart (drop l.i (zip l.slots (map string_bytes l.words))) ↔ AreWordsApart (zip l.slots (map string_bytes l.words))
