use Rattle.std.proofs.Common.{◌≡◌, ◌++◌, drop}
use Rattle.ap_pipe.specs.Ranks.{ranked_widths}
use Rattle.ap_pipe.specs.Widths.{widest}
use Rattle.ap_pipe.proofs.homes.widened.Given as goal

-- the widths so far, and those of the slots from here on
abbrev pub invariant-loop-slot : goal.invariant-loop-slot
invariant-loop-slot l = widest l.widths (ranked_widths l.list) ≡ l.made ++ widest (drop l.slot l.widths) (drop l.slot (ranked_widths l.list))
