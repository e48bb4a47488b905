-- How many lines an instruction has, and between which stages they stand.
use Rattle.std.specs.Prelude.{◌≤◌, length}
use Rattle.std.specs.List.{AllByRecursion as Each}
use Rattle.ap_desc.specs.declared.design.Instr.{Instr}
use Rattle.ap_desc.specs.declared.design.Micro.{Micro}

pub record IsWithinLimits (instr : Instr) : Type 0 where
  pub lines : length instr.micros ≤ 64
  pub stages : Each (λ (m : Micro). (1 ≤ m.stage) × (m.stage ≤ 8)) instr.micros
