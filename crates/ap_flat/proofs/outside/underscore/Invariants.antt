use Rattle.std.proofs.Common.{take}
use Rattle.ap_flat.specs.Ports.{HasNoUnderscore}
use Rattle.ap_flat.proofs.outside.underscore.Given as goal

abbrev pub invariant-loop-i : goal.invariant-loop-i
invariant-loop-i l = HasNoUnderscore (take l.i l.text)
