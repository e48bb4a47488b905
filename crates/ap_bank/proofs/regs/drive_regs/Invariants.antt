use Rattle.std.proofs.Common.{take}
use Rattle.ap_bank.specs.Regs.{DrivesRegs}
use Rattle.ap_bank.proofs.regs.drive_regs.Given as goal

abbrev pub invariant-loop-place : goal.invariant-loop-place
invariant-loop-place l = DrivesRegs (take l.place l.registers) (take l.place l.writes) l.fn.out l.out
