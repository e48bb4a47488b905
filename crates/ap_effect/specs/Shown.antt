-- What the nets of write ports and of the transfer show of a stage's lines: what the border between a circuit's cycle and what it stores
-- asks for.
use Rattle.std.specs.Prelude.{◌≡◌, ℕ, ◌^◌, ◌<◌, if◌then◌else◌, true, List, Option, Some, None, filter_map, map, option_map, slice_get}
use Rattle.std.specs.List.{AllByRecursion as Each}
use Rattle.std.specs.Option.{option_map_or}
use Rattle.ap_desc.specs.Clean.{IsClean}
use Rattle.ap_desc.specs.declared.design.Arg.{Arg}
use Rattle.ap_desc.specs.declared.design.Design.{Design}
use Rattle.ap_desc.specs.declared.design.Instr.{Instr}
use Rattle.ap_desc.specs.declared.design.Micro.{Micro}
use Rattle.ap_model.specs.declared.storage.PortWrite.{PortWrite}
use Rattle.ap_model.specs.declared.storage.WritePort.{WritePort}
use Rattle.ap_model.specs.Fire.{instr_of, is_match, lines_in, target_of}
use Rattle.ap_model.specs.PortForms.{line_write}
use Rattle.ap_net.specs.declared.cell.Wire.{Wire}
use Rattle.ap_net.specs.declared.net.ModuleNet.{ModuleNet}
use Rattle.ap_net.specs.Draft.{Draft}
use Rattle.ap_net.specs.Readings.{IsSettled, Reading}
use Rattle.ap_ctl.specs.Building.{is_on}
use Rattle.ap_ctl.specs.Lists.{EachPair}
use Rattle.ap_effect.specs.declared.line.PortLine.{PortLine}
use Rattle.ap_effect.specs.declared.transfer.Transfer.{Transfer}
use Rattle.ap_effect.specs.declared.transfer.TransferNets.{TransferNets}
use Rattle.ap_effect.specs.declared.write.WriteNets.{WriteNets}
use Rattle.ap_effect.specs.declared.write.Writer.{Writer}
use Rattle.ap_effect.specs.Lines.{transfer_lines, write_lines}
use Rattle.ap_effect.specs.Writers.{AreTransferNets, AreWriteNets, IsWriter, writer_of}

abbrev pub net_value : Reading → Wire → ℕ
net_value r w = r.read w.number

-- The condition tells whether the word matches the instruction of the line. Where it is 1, the other nets have the values of what the line
-- hands in.
pub record IsWriterOf (design : Design) (word : ℕ) (given : Arg → ℕ) (r : Reading) (line : PortLine) (w : Writer) : Type 0 where
  pub cond : (instr : Instr) → slice_get design.instrs line.instr ≡ Some instr → is_on r w.cond ≡ is_match word instr
  pub guard : is_on r w.cond ≡ true → option_map (net_value r) w.guard ≡ option_map given line.guard
  pub index : is_on r w.cond ≡ true → option_map (net_value r) w.index ≡ option_map given line.index
  pub value : is_on r w.cond ≡ true → r.read w.value.number ≡ given line.value

abbrev pub AreWritersOf : Design → ℕ → (Arg → ℕ) → Reading → List PortLine → List Writer → Type 0
AreWritersOf design word value r lines writers = EachPair (IsWriterOf design word value r) lines writers

-- Writes.

-- the write that the nets of a port show
abbrev pub shown_write : Reading → WritePort → WriteNets → Option PortWrite
shown_write r p nets = if is_on r nets.enable then Some (record { port = p; at = option_map_or (net_value r) nets.index 0; value = r.read nets.value.number }) else None

-- what the line of a word writes through the port, where the word matches an instruction
abbrev pub word_write : (Arg → ℕ) → WritePort → ℕ → Option Instr → Option PortWrite
word_write value p stage None = None
word_write value p stage (Some instr) = line_write value p (lines_in stage instr)

-- A port shows the write of the line of the word that stands in the stage, where the stage fires; and none where it doesn't fire, and
-- where the word matches no instruction.
abbrev pub PortsShowWrites : Type 0
PortsShowWrites = (design : Design) (stage word : ℕ) (p : WritePort) (value : Arg → ℕ) (old : List ModuleNet) (d : Draft) (fires : Wire) (writers : List Writer) (bits : Option ℕ) (width : ℕ) (nets : WriteNets) (r : Reading)
    → IsClean design → word < 2 ^ design.word → Each (IsWriter old bits width) writers → AreWriteNets d fires writers bits width nets → IsSettled d r → AreWritersOf design word value r (write_lines design stage p) writers
    → shown_write r p nets ≡ (if is_on r fires then word_write value p stage (instr_of design word) else None)

-- The transfer.

-- the target to which the nets of the transfer show that it goes
abbrev pub shown_target : Reading → TransferNets → Option ℕ
shown_target r nets = if is_on r nets.taken then Some (r.read nets.target.number) else None

-- the target of the transfer that a word takes in the stage, where the word matches an instruction
abbrev pub word_target : (Arg → ℕ) → ℕ → Option Instr → Option ℕ
word_target value stage None = None
word_target value stage (Some instr) = slice_get (filter_map (λ (m : Micro). target_of value m.act) (lines_in stage instr)) 0

-- The nets show the transfer that the word takes that stands in the stage; and none where there is no word, and where it matches no
-- instruction.
abbrev pub NetsShowTransfer : Type 0
NetsShowTransfer = (design : Design) (stage word : ℕ) (value : Arg → ℕ) (d : Draft) (valid : Wire) (transfers : List Transfer) (width : ℕ) (nets : TransferNets) (r : Reading)
    → IsClean design → word < 2 ^ design.word → AreTransferNets d valid transfers width nets → IsSettled d r → AreWritersOf design word value r (transfer_lines design stage) (map writer_of transfers)
    → shown_target r nets ≡ (if is_on r valid then word_target value stage (instr_of design word) else None)
