-- The stages in which lines write through the ports of a register file.
use Rattle.std.specs.Prelude.{◌≡◌, ℕ, ◌-◌, ◌≤◌, ◌==◌, Bool, List, length}
use Rattle.ap_desc.specs.declared.design.Design.{Design}
use Rattle.ap_desc.specs.declared.design.Micro.{Micro}
use Rattle.ap_model.specs.declared.storage.WritePort.TheVariants as port
use Rattle.ap_model.specs.Ports.{is_used_in, writes_through}
use Rattle.ap_ctl.specs.Lists.{EachFrom}

abbrev pub writes_cell : ℕ → ℕ → Micro → Bool
writes_cell file number m = writes_through (port.Cell file number) m.act

-- Lines write through the port in this stage alone; where it is 0, none does.
pub record IsPortStage (design : Design) (file number stage : ℕ) : Type 0 where
  pub within : stage ≤ design.stages - 1
  pub used : (other : ℕ) → 1 ≤ other → (stage == other) ≡ is_used_in design other (port.Cell file number)

-- one for each write port of the file
pub record AreWriteStages (design : Design) (file writes : ℕ) (stages : List ℕ) : Type 0 where
  pub count : length stages ≡ writes
  pub each : EachFrom (IsPortStage design file) 0 stages
