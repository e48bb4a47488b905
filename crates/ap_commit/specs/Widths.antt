-- The widths of what the lines of a sound design hand in.
use Rattle.std.specs.Prelude.{◌≡◌, ℕ, List, Option, None, Some, slice_get}
use Rattle.std.specs.List.{AllByRecursion as Each}
use Rattle.ap_desc.specs.Designs.{fields_of, index_bits, width_at}
use Rattle.ap_desc.specs.Sound.{IsSound}
use Rattle.ap_desc.specs.Widths.{mem_address}
use Rattle.ap_desc.specs.declared.design.Design.{Design}
use Rattle.ap_desc.specs.declared.design.Instr.{Instr}
use Rattle.ap_model.specs.declared.storage.WritePort.{WritePort}
use Rattle.ap_model.specs.declared.storage.WritePort.TheVariants as port
use Rattle.ap_model.specs.Fitting.{port_width}
use Rattle.ap_stage.specs.declared.node.Course.{Course}
use Rattle.ap_stage.specs.declared.source.Ground.{Ground}
use Rattle.ap_effect.specs.Lines.{transfer_lines, write_lines}
use Rattle.ap_outcome.specs.Fitting.{FitsPort}

-- the bits of a port's index, or of its address; none at a register
abbrev pub port_bits : Design → WritePort → Option ℕ
port_bits design (port.Register reg) = None
port_bits design (port.Cell file number) = Some (width_at index_bits design.files file)
port_bits design (port.Memory mem) = Some (mem_address design mem)

-- addresses have the bits of a code address, and each course names the locals and the fields of the instruction at its place
pub record AreOfDesign (design : Design) (ground : Ground) (courses : List Course) : Type 0 where
  pub place : ground.place.width ≡ design.address
  pub link : ground.link.width ≡ design.address
  pub locals : (k : ℕ) (instr : Instr) (c : Course) → slice_get design.instrs k ≡ Some instr → slice_get courses k ≡ Some c → c.scope.widths ≡ instr.locals
  pub fields : (k : ℕ) (instr : Instr) (c : Course) → slice_get design.instrs k ≡ Some instr → slice_get courses k ≡ Some c → c.scope.fields ≡ fields_of design instr

-- So the lines that write through a port fit it, and the transfers fit the pc.
abbrev pub WriteLinesFit : Type 0
WriteLinesFit = (design : Design) (ground : Ground) (courses : List Course) (stage : ℕ) (p : WritePort) → IsSound design → AreOfDesign design ground courses
    → Each (FitsPort ground courses (port_bits design p) (port_width design p)) (write_lines design stage p)

abbrev pub TransferLinesFit : Type 0
TransferLinesFit = (design : Design) (ground : Ground) (courses : List Course) (stage : ℕ) → IsSound design → AreOfDesign design ground courses → Each (FitsPort ground courses None design.address) (transfer_lines design stage)
