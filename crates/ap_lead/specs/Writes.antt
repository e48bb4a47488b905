-- The outputs that show what is written to registers and through the ports of register files, as the registers and files take them.
use Rattle.std.specs.Prelude.{◌≡◌, ℕ, Bool, false, true, List, Option, None, Some, find, length, map, slice_get}
use Rattle.std.specs.List.{range_with_len}
use Rattle.std.specs.Option.{option_map}
use Rattle.ap_desc.specs.Clean.{IsClean}
use Rattle.ap_desc.specs.declared.design.Design.{Design}
use Rattle.ap_desc.specs.declared.design.File.{File}
use Rattle.ap_model.specs.declared.storage.WritePort.{WritePort}
use Rattle.ap_model.specs.declared.storage.WritePort.TheVariants as port
use Rattle.ap_model.specs.Ports.{is_same_port, is_used}
use Rattle.ap_net.specs.declared.cell.Wire.{Wire}
use Rattle.ap_net.specs.Draft.{Draft, IsKept}
use Rattle.ap_signals.specs.DesignOutside.{group_of}
use Rattle.ap_ctl.specs.Lists.{EachFrom, EachPair}
use Rattle.ap_bank.specs.declared.files.FileWrite.{FileWrite}
use Rattle.ap_bank.specs.declared.regs.RegWrite.{RegWrite}
use Rattle.ap_bank.specs.Banked.{ArePorts}
use Rattle.ap_bank.specs.Border.{IsShownWrite}
use Rattle.ap_bank.specs.FileBorder.{IsNamedPort}
use Rattle.ap_bank.specs.Regs.{IsReg, IsRegWrite}
use Rattle.ap_front.specs.declared.ports.GroupPorts.{GroupPorts}
use Rattle.ap_front.specs.declared.ports.Ports.{Ports}
use Rattle.ap_front.specs.Ports.{AreGroupPorts, HasPorts}

-- the outputs of a write port, where they are among these
abbrev pub is_of : WritePort → GroupPorts → Bool
is_of p g = is_same_port p g.port

abbrev pub outputs_of : WritePort → List GroupPorts → Option GroupPorts
outputs_of p groups = find (is_of p) groups

-- what shows the writes of a register, where some line writes it
abbrev pub reg_write_of : GroupPorts → RegWrite
reg_write_of g = record { enable = g.enable; value = g.value }

abbrev pub reg_write : List GroupPorts → ℕ → Option RegWrite
reg_write groups reg = option_map reg_write_of (outputs_of (port.Register reg) groups)

-- those of so many registers
abbrev pub reg_writes : List GroupPorts → ℕ → List (Option RegWrite)
reg_writes groups count = map (reg_write groups) (range_with_len 0 count)

-- what shows the writes through a port of a file, which has an index
abbrev pub file_write_at : GroupPorts → Option Wire → Option FileWrite
file_write_at g None = None
file_write_at g (Some index) = Some (record { enable = g.enable; index = index; value = g.value })

abbrev pub file_write_of : Option GroupPorts → Option FileWrite
file_write_of None = None
file_write_of (Some g) = file_write_at g g.index

abbrev pub file_write : List GroupPorts → ℕ → ℕ → Option FileWrite
file_write groups file number = file_write_of (outputs_of (port.Cell file number) groups)

-- those of so many ports of a file
abbrev pub file_writes : List GroupPorts → ℕ → ℕ → List (Option FileWrite)
file_writes groups file count = map (file_write groups file) (range_with_len 0 count)

-- A write port through which some line writes has its outputs; one through which none writes has none.
abbrev pub IsShown : Design → Draft → WritePort → Option GroupPorts → Type 0
IsShown design d p None = is_used design p ≡ false
IsShown design d p (Some g) = (is_used design p ≡ true) × AreGroupPorts d (group_of design p) g

-- The writes fit the registers, and stand at the names that show them.
pub record ShowsRegs (design : Design) (d : Draft) (registers : List Wire) (writes : List (Option RegWrite)) : Type 0 where
  pub fit : EachPair (IsRegWrite d.nets) registers writes
  pub shown : EachFrom (IsShownWrite design d) 0 writes

abbrev pub RegWritesAreShown : Type 0
RegWritesAreShown = (design : Design) (d : Draft) (p : Ports) (registers : List Wire) → IsKept d → HasPorts design d p
    → EachPair (IsReg d) design.regs registers → ShowsRegs design d registers (reg_writes p.groups (length design.regs))

-- They fit the write ports of the file, and stand at the names that show them.
pub record ShowsFile (design : Design) (d : Draft) (file : ℕ) (f : File) (writes : List (Option FileWrite)) : Type 0 where
  pub fit : ArePorts f d.nets writes
  pub named : EachFrom (IsNamedPort design d file) 0 writes

abbrev pub FileWritesAreShown : Type 0
FileWritesAreShown = (design : Design) (d : Draft) (p : Ports) → IsClean design → IsKept d → HasPorts design d p
    → (file : ℕ) (f : File) → slice_get design.files file ≡ Some f → ShowsFile design d file f (file_writes p.groups file f.writes)
