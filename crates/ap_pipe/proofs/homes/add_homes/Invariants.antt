use Rattle.std.proofs.Common.{◌≡◌, ◌++◌, drop}
use Rattle.ap_pipe.specs.Ranks.{homes_from}
use Rattle.ap_pipe.proofs.homes.add_homes.Given as goal

-- the homes so far, and those of the locals from here on
abbrev pub invariant-loop-slot : goal.invariant-loop-slot
invariant-loop-slot l = l.fn.homes ++ homes_from l.instr 0 l.list ≡ l.homes ++ homes_from l.instr l.slot (drop l.slot l.list)
