-- What write ports and the transfer give of the border between a circuit's cycle and what it stores.
use Rattle.std.specs.Prelude.{◌≡◌, ℕ, ◌^◌, ◌<◌, if◌then◌else◌, true, false, List, Option, Some, None, filter_map, map, slice_get}
use Rattle.std.specs.List.{AllByRecursion as Each}
use Rattle.ap_cycle.specs.Signals.{Signals, goes_on}
use Rattle.ap_desc.specs.Clean.{IsClean}
use Rattle.ap_desc.specs.declared.design.Arg.{Arg}
use Rattle.ap_desc.specs.declared.design.Design.{Design}
use Rattle.ap_desc.specs.declared.design.Instr.{Instr}
use Rattle.ap_desc.specs.declared.design.Micro.{Micro}
use Rattle.ap_model.specs.declared.storage.WritePort.{WritePort}
use Rattle.ap_model.specs.Fire.{instr_of, lines_in, target_of}
use Rattle.ap_model.specs.PortForms.{line_write}
use Rattle.ap_net.specs.declared.cell.Wire.{Wire}
use Rattle.ap_net.specs.declared.net.ModuleNet.{ModuleNet}
use Rattle.ap_net.specs.Draft.{Draft}
use Rattle.ap_net.specs.Readings.{IsSettled, Reading}
use Rattle.ap_ctl.specs.Building.{is_on}
use Rattle.ap_effect.specs.declared.transfer.Transfer.{Transfer}
use Rattle.ap_effect.specs.declared.transfer.TransferNets.{TransferNets}
use Rattle.ap_effect.specs.declared.write.WriteNets.{WriteNets}
use Rattle.ap_effect.specs.declared.write.Writer.{Writer}
use Rattle.ap_effect.specs.Lines.{transfer_lines, write_lines}
use Rattle.ap_effect.specs.Shown.{AreWritersOf, shown_target, shown_write}
use Rattle.ap_effect.specs.Writers.{AreTransferNets, AreWriteNets, IsWriter, writer_of}

-- Nothing is written through the port where the stage's word doesn't go on or matches no instruction; else what the word's line writes.
pub record GivesWrite (design : Design) (signals : Signals) (stage word : ℕ) (p : WritePort) (value : Arg → ℕ) : Type 0 where
  pub unwritten : goes_on design signals stage ≡ false → signals.write p ≡ None
  pub nothing : instr_of design word ≡ None → signals.write p ≡ None
  pub line : (instr : Instr) → instr_of design word ≡ Some instr → goes_on design signals stage ≡ true → signals.write p ≡ line_write value p (lines_in stage instr)

-- where the nets of a port have the values of what the lines hand in, and the stage fires where its word goes on
abbrev pub PortsGiveBorder : Type 0
PortsGiveBorder = (design : Design) (signals : Signals) (stage word : ℕ) (p : WritePort) (value : Arg → ℕ) (old : List ModuleNet) (d : Draft) (fires : Wire) (writers : List Writer) (bits : Option ℕ) (width : ℕ) (nets : WriteNets) (r : Reading)
    → IsClean design → word < 2 ^ design.word → Each (IsWriter old bits width) writers → AreWriteNets d fires writers bits width nets → IsSettled d r → AreWritersOf design word value r (write_lines design stage p) writers
    → goes_on design signals stage ≡ is_on r fires → signals.write p ≡ shown_write r p nets → GivesWrite design signals stage word p value

-- No transfer is taken where its stage is empty or held, or its word matches no instruction; else that of the word's lines.
pub record GivesTransfer (design : Design) (signals : Signals) (word : ℕ) (value : Arg → ℕ) : Type 0 where
  pub untaken : signals.valid design.branch ≡ false → signals.taken ≡ None
  pub held : signals.hold design.branch ≡ true → signals.taken ≡ None
  pub nothing : instr_of design word ≡ None → signals.taken ≡ None
  pub line : (instr : Instr) → instr_of design word ≡ Some instr → signals.valid design.branch ≡ true → signals.hold design.branch ≡ false
      → signals.taken ≡ slice_get (filter_map (λ (m : Micro). target_of value m.act) (lines_in design.branch instr)) 0

-- where the nets have the values of what the lines hand in, and what they show is taken where the stage isn't held
abbrev pub TransferGivesBorder : Type 0
TransferGivesBorder = (design : Design) (signals : Signals) (word : ℕ) (value : Arg → ℕ) (d : Draft) (valid : Wire) (transfers : List Transfer) (width : ℕ) (nets : TransferNets) (r : Reading)
    → IsClean design → word < 2 ^ design.word → AreTransferNets d valid transfers width nets → IsSettled d r → AreWritersOf design word value r (transfer_lines design design.branch) (map writer_of transfers)
    → signals.valid design.branch ≡ is_on r valid → signals.taken ≡ (if signals.hold design.branch then None else shown_target r nets) → GivesTransfer design signals word value
