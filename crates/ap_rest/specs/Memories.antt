-- A memory that no line writes is never written.
use Rattle.std.specs.Prelude.{◌≡◌, ℕ, ◌<◌, ◌≤◌, false, List, ◌++◌, codes, length}
use Rattle.ap_desc.specs.Clean.{IsClean}
use Rattle.ap_desc.specs.declared.design.Design.{Design}
use Rattle.ap_model.specs.declared.storage.WritePort.TheVariants as port
use Rattle.ap_model.specs.Ports.{is_used}
use Rattle.ap_net.specs.Draft.{Draft, Extends, names_of}
use Rattle.ap_net.specs.Names.{IsNew, IsNotNumbered}
use Rattle.ap_pipe.specs.declared.table.StageSlots.{StageSlots}
use Rattle.ap_signals.specs.DesignOutside.{enable_name}
use Rattle.ap_flight.specs.Planned.{with_registers}
use Rattle.ap_border.specs.Storages.{IsOff}
use Rattle.ap_bank.specs.Regs.{with_regs}
use Rattle.ap_front.specs.declared.ports.Ports.{Ports}
use Rattle.ap_front.specs.NewNames.{ported}
use Rattle.ap_front.specs.Opened.{front_plan}
use Rattle.ap_front.specs.Ports.{HasPorts}
use Rattle.ap_rest.specs.Reads.{RestsLate, idle_writes}

-- However the draft grows on, its enable reads as 0.
abbrev pub IdleMemoriesAreOff : Type 0
IdleMemoriesAreOff = (design : Design) (p : Ports) (old a d : Draft) → RestsLate (idle_writes design 0 p.mems) old a → Extends a d → HasPorts design d p
    → (mem : ℕ) → mem < length design.mems → is_used design (port.Memory mem) ≡ false → IsOff d (enable_name design (port.Memory mem))

-- The enable of a memory would have a name of the outputs of memories, and no net or instance of the draft has it.
pub record HasNoMemory (design : Design) (d : Draft) (mem : ℕ) : Type 0 where
  pub letter : (rest : List ℕ) × (enable_name design (port.Memory mem) ≡ codes "m_" ++ rest)
  pub other : IsNotNumbered (enable_name design (port.Memory mem))
  pub new : IsNew (enable_name design (port.Memory mem)) (names_of d)

-- So it is where the design has no memory of this number, once the ports and the registers of the front and of the design are declared.
abbrev pub MissingMemoriesHaveNone : Type 0
MissingMemoriesHaveNone = (design : Design) (stages : List StageSlots) (mem : ℕ) → IsClean design → length design.mems ≤ mem
    → HasNoMemory design (with_regs (with_registers (ported design) (front_plan design stages)) design.regs) mem
