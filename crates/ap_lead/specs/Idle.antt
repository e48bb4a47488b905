-- Write ports of registers and files: which of them have outputs, and that no net is named for one through which no line writes.
use Rattle.std.specs.Prelude.{◌≡◌, ℕ, ◌<◌, false, true, List, ◌++◌, codes, length}
use Rattle.std.specs.List.{AllByRecursion as Each}
use Rattle.ap_desc.specs.Clean.{IsClean}
use Rattle.ap_desc.specs.declared.design.Design.{Design}
use Rattle.ap_model.specs.declared.storage.WritePort.{WritePort}
use Rattle.ap_model.specs.declared.storage.WritePort.TheVariants as port
use Rattle.ap_model.specs.Ports.{is_used, write_count}
use Rattle.ap_net.specs.Draft.{Draft, names_of}
use Rattle.ap_net.specs.Names.{IsNew, IsNotNumbered}
use Rattle.ap_pipe.specs.declared.table.StageSlots.{StageSlots}
use Rattle.ap_signals.specs.DesignOutside.{enable_name}
use Rattle.ap_border.specs.Storages.{IsOff}
use Rattle.ap_front.specs.declared.ports.GroupPorts.{GroupPorts}
use Rattle.ap_front.specs.declared.ports.Ports.{Ports}
use Rattle.ap_front.specs.Ports.{HasPorts}
use Rattle.ap_lead.specs.declared.store.Lead.{Lead}
use Rattle.ap_lead.specs.Storing.{Leads}
use Rattle.ap_lead.specs.Writes.{IsShown, outputs_of}

-- the design has this register, or this file with this write port
abbrev pub HasStoragePort : Design → WritePort → Type 0
HasStoragePort design (port.Register reg) = reg < length design.regs
HasStoragePort design (port.Cell file number) = (file < length design.files) × (number < write_count design file)
HasStoragePort design (port.Memory mem) = ⊥

-- Each group of outputs is of a port through which some line writes; and each such port of a register or a file has its group.
pub record GroupsAreUsed (design : Design) (d : Draft) (p : Ports) : Type 0 where
  pub each : Each (λ (g : GroupPorts). is_used design g.port ≡ true) p.groups
  pub shown : (q : WritePort) → HasStoragePort design q → IsShown design d q (outputs_of q p.groups)

abbrev pub GroupsAreOfUsed : Type 0
GroupsAreOfUsed = (design : Design) (d : Draft) (p : Ports) → IsClean design → HasPorts design d p → GroupsAreUsed design d p

-- the port isn't a memory's
abbrev pub IsNoMemory : WritePort → Type 0
IsNoMemory (port.Register reg) = Unit {0}
IsNoMemory (port.Cell file number) = Unit {0}
IsNoMemory (port.Memory mem) = ⊥

-- The enable of the port would have a name of the outputs that show writes, and no net or instance of the draft has it.
pub record HasNoEnable (design : Design) (d : Draft) (q : WritePort) : Type 0 where
  pub letter : (rest : List ℕ) × (enable_name design q ≡ codes "w_" ++ rest)
  pub other : IsNotNumbered (enable_name design q)
  pub new : IsNew (enable_name design q) (names_of d)

-- So it is where no line writes through the port, whether the design has it or not.
abbrev pub IdlePortsHaveNone : Type 0
IdlePortsHaveNone = (design : Design) (stages : List StageSlots) (made : Lead) (a : Draft) → IsClean design → Leads design stages made a
    → (q : WritePort) → IsNoMemory q → is_used design q ≡ false → HasNoEnable design a q

-- a name that no net has reads as 0
abbrev pub NewNamesAreOff : Type 0
NewNamesAreOff = (d : Draft) (name : List ℕ) → IsNew name (names_of d) → IsOff d name
