-- Beside the ports of top the names of all else are new.
use Rattle.std.specs.Prelude.{ℕ, List, codes}
use Rattle.std.specs.List.{AllByRecursion as Each}
use Rattle.ap_desc.specs.Clean.{IsClean}
use Rattle.ap_desc.specs.declared.design.Design.{Design}
use Rattle.ap_desc.specs.declared.design.File.{File}
use Rattle.ap_desc.specs.declared.design.Reg.{Reg}
use Rattle.ap_desc.specs.declared.design.Unit.{Unit as Resource}
use Rattle.ap_net.specs.Draft.{Draft, KeepsNew, blank, names_of}
use Rattle.ap_net.specs.Names.{IsNew}
use Rattle.ap_net.specs.Outside.{ports_of}
use Rattle.ap_pipe.specs.declared.table.StageSlots.{StageSlots}
use Rattle.ap_signals.specs.DesignOutside.{outside_of}
use Rattle.ap_signals.specs.NetRuns.{file_part, pc_name, place_name, reg_name, slot_name, unit_part, valid_name, word_name}
use Rattle.ap_flight.specs.Planned.{IsNewIn, KeepsOther}
use Rattle.ap_front.specs.Opened.{front_plan}
use Rattle.ap_front.specs.Ports.{with_ports}

-- the ports of a design's top, and nothing else
abbrev pub ported : Design → Draft
ported design = with_ports (blank (codes "top")) (ports_of (outside_of design))

-- No net or instance of the draft has one of the names that pc, stages, registers, files and units have.
pub record HasNone (d : Draft) : Type 0 where
  pub pc : IsNew pc_name (names_of d)
  pub words : (stage : ℕ) → IsNew (word_name stage) (names_of d)
  pub places : (stage : ℕ) → IsNew (place_name stage) (names_of d)
  pub slots : (stage slot : ℕ) → IsNew (slot_name stage slot) (names_of d)
  pub valid : (stage : ℕ) → IsNew (valid_name stage) (names_of d)
  pub regs : (r : Reg) → IsNew (reg_name r) (names_of d)
  pub files : (f : File) → IsNew (file_part f) (names_of d)
  pub units : (u : Resource) → IsNew (unit_part u) (names_of d)

abbrev pub PortsLeaveNames : Type 0
PortsLeaveNames = (design : Design) → IsClean design → HasNone (ported design)

-- so the pc and the registers of the stages can be declared
abbrev pub FrontIsNew : Type 0
FrontIsNew = (design : Design) (d : Draft) (stages : List StageSlots) → HasNone d → Each (IsNewIn d) (front_plan design stages)

-- those that are left once the pc and the registers of the stages are declared
pub record HasNoneLeft (d : Draft) : Type 0 where
  pub valid : (stage : ℕ) → IsNew (valid_name stage) (names_of d)
  pub regs : (r : Reg) → IsNew (reg_name r) (names_of d)
  pub files : (f : File) → IsNew (file_part f) (names_of d)
  pub units : (u : Resource) → IsNew (unit_part u) (names_of d)

abbrev pub RegistersLeaveNames : Type 0
RegistersLeaveNames = (design : Design) (a b : Draft) (stages : List StageSlots) → KeepsOther (front_plan design stages) a b → HasNone a → HasNoneLeft b

-- fresh wires leave them new
abbrev pub WiresLeaveNames : Type 0
WiresLeaveNames = (a b : Draft) → KeepsNew a b → HasNoneLeft a → HasNoneLeft b
