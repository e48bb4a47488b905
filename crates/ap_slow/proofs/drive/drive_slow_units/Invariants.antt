use Rattle.std.proofs.Common.{take}
use Rattle.ap_slow.specs.Driven.{DrivesUnits}
use Rattle.ap_slow.proofs.drive.drive_slow_units.Given as goal

abbrev pub invariant-loop-unit : goal.invariant-loop-unit
invariant-loop-unit l = DrivesUnits l.design l.nets (take l.unit-index l.placed) l.fn.out l.out
