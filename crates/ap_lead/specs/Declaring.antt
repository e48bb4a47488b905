-- What is declared first in a processor's top.
use Rattle.std.specs.Prelude.{◌≡◌, ℕ, List, length}
use Rattle.ap_desc.specs.declared.design.Design.{Design}
use Rattle.ap_desc.specs.declared.design.File.{File}
use Rattle.ap_desc.specs.declared.design.Unit.{Unit as Resource}
use Rattle.ap_net.specs.Draft.{Draft, CanFresh, names_of}
use Rattle.ap_net.specs.Names.{IsNew}
use Rattle.ap_pipe.specs.declared.table.StageSlots.{StageSlots}
use Rattle.ap_signals.specs.NetRuns.{file_part, unit_part, valid_name}
use Rattle.ap_flight.specs.Planned.{register_wires, with_registers}
use Rattle.ap_bank.specs.Regs.{AreRegs, reg_wires, with_regs}
use Rattle.ap_front.specs.NewNames.{ported}
use Rattle.ap_front.specs.Opened.{AreOpen, NamesFront, front_plan, front_wires}
use Rattle.ap_front.specs.Ports.{HasPorts}
use Rattle.ap_lead.specs.declared.declare.Declared.{Declared}

-- the ports and the registers of the front; and those of the description besides
abbrev pub opened : Design → List StageSlots → Draft
opened design stages = with_registers (ported design) (front_plan design stages)

abbrev pub declared : Design → List StageSlots → Draft
declared design stages = with_regs (opened design stages) design.regs

-- No net or instance of the draft has one of the names of valid bits, files and units.
pub record HasNoParts (d : Draft) : Type 0 where
  pub valid : (stage : ℕ) → IsNew (valid_name stage) (names_of d)
  pub files : (f : File) → IsNew (file_part f) (names_of d)
  pub units : (u : Resource) → IsNew (unit_part u) (names_of d)

-- Ports and registers are there by their names, one after the other, and nothing else; no register takes anything yet.
pub record Declares (design : Design) (stages : List StageSlots) (made : Declared) (new : Draft) : Type 0 where
  pub is : new ≡ declared design stages
  pub ports : HasPorts design new made.ports
  pub front : NamesFront design new stages made.front
  pub front_are : front_wires made.front ≡ register_wires (length (ported design).nets) (front_plan design stages)
  pub front_open : AreOpen new (front_wires made.front)
  pub regs_are : made.regs ≡ reg_wires (length (opened design stages).nets) design.regs
  pub regs : AreRegs new design.regs made.regs
  pub fresh : CanFresh new
  pub names : HasNoParts new
