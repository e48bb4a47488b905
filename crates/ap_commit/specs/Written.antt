-- What a stage writes by its ports and where its transfer goes, by the nets of its instructions.
use Rattle.std.specs.Prelude.{ℕ, ◌≤◌, List, [], ◌∷◌, ◌++◌, length, map, Option, None}
use Rattle.std.specs.List.{AllByRecursion as Each}
use Rattle.ap_desc.specs.declared.design.Design.{Design}
use Rattle.ap_net.specs.declared.cell.Wire.{Wire}
use Rattle.ap_net.specs.declared.net.ModuleNet.{ModuleNet}
use Rattle.ap_net.specs.Draft.{Draft}
use Rattle.ap_net.specs.Ready.{numbers}
use Rattle.ap_merge.specs.Selects.{GoesOver}
use Rattle.ap_merge.specs.declared.table.Select.{Select}
use Rattle.ap_stage.specs.declared.node.Course.{Course}
use Rattle.ap_stage.specs.declared.source.Ground.{Ground}
use Rattle.ap_effect.specs.declared.line.PortLine.{PortLine}
use Rattle.ap_effect.specs.declared.transfer.Transfer.{Transfer}
use Rattle.ap_effect.specs.declared.transfer.TransferNets.{TransferNets}
use Rattle.ap_effect.specs.declared.write.WriteNets.{WriteNets}
use Rattle.ap_effect.specs.declared.write.Writer.{Writer}
use Rattle.ap_effect.specs.Lines.{transfer_lines, write_lines}
use Rattle.ap_effect.specs.Writers.{AreTransferNets, AreWriteNets, IsWriter, write_wires, writer_of}
use Rattle.ap_outcome.specs.Fitting.{FitsPort}
use Rattle.ap_outcome.specs.Outcomes.{AreLineWriters, HasCourse}
use Rattle.ap_commit.specs.declared.write.UsedPort.{UsedPort}

-- There are such lines, all that they hand in has nets with the bits of the port, and the selection goes over them.
pub record CanWrite (ground : Ground) (courses : List Course) (bits : Option ℕ) (width : ℕ) (select : Select) (lines : List PortLine) : Type 0 where
  pub some : 1 ≤ length lines
  pub can : Each (HasCourse courses) lines
  pub fit : Each (FitsPort ground courses bits width) lines
  pub over : GoesOver select 0 (length lines)

-- the lines of the stage can write through the port
abbrev pub CanWritePort : Design → ℕ → Ground → List Course → UsedPort → Type 0
CanWritePort design stage ground courses used = CanWrite ground courses used.bits used.width used.select (write_lines design stage used.port)

-- the transfers of the stage in which transfers are made can go to the pc
abbrev pub CanTransfer : Design → Ground → List Course → Select → ℕ → Type 0
CanTransfer design ground courses select width = CanWrite ground courses None width select (transfer_lines design design.branch)

-- The nets are those of a port over the writers of these lines.
pub record AreWritten (d : Draft) (ground : Ground) (courses : List Course) (fires : Wire) (bits : Option ℕ) (width : ℕ) (lines : List PortLine) (made : WriteNets) : Type 0 where
  pub old : List ModuleNet
  pub writers : List Writer
  pub fit : Each (IsWriter old bits width) writers
  pub come : AreLineWriters d ground courses lines writers
  pub are : AreWriteNets d fires writers bits width made

-- and of a port by which lines of the stage write
abbrev pub IsWritten : Draft → Design → ℕ → Ground → List Course → Wire → UsedPort → WriteNets → Type 0
IsWritten d design stage ground courses fires used made = AreWritten d ground courses fires used.bits used.width (write_lines design stage used.port) made

-- the numbers of the nets of all ports
abbrev pub ports_numbers : List WriteNets → List ℕ
ports_numbers [] = []
ports_numbers (made ∷ ports) = numbers (write_wires made) ++ ports_numbers ports

-- The nets are those of the transfer over the transfers of the stage in which transfers are made.
pub record IsTransferred (d : Draft) (design : Design) (ground : Ground) (courses : List Course) (valid : Wire) (width : ℕ) (made : TransferNets) : Type 0 where
  pub transfers : List Transfer
  pub come : AreLineWriters d ground courses (transfer_lines design design.branch) (map writer_of transfers)
  pub are : AreTransferNets d valid transfers width made
