-- The read ports of register files, by their nets.
use Rattle.std.specs.Prelude.{◌≡◌, ℕ, List, slice_get, Some}
use Rattle.ap_desc.specs.declared.design.Design.{Design}
use Rattle.ap_desc.specs.declared.design.File.{File}
use Rattle.ap_net.specs.declared.cell.Wire.{Wire}
use Rattle.ap_net.specs.Draft.{Draft}
use Rattle.ap_net.specs.Modules.{ModuleText}
use Rattle.ap_store.specs.FilePorts.{read_index, read_value}
use Rattle.ap_border.specs.Files.{HasFiles}
use Rattle.ap_bank.specs.FileBorder.{BanksFiles, GivesFiles}

-- Of a file as the border has it, a read port's index and value are joined to the nets that were given for it when the file was placed.
pub record JoinsReads (design : Design) (d : Draft) (modules : List ModuleText) (banks : BanksFiles design d modules) (files : HasFiles design d modules) (file : ℕ) (f : File) (at : slice_get design.files file ≡ Some f) : Type 0 where
  pub index : (number : ℕ) (w : Wire) → slice_get (banks file f at).reads number ≡ Some w → slice_get (files.each file f at).of.nets (read_index number) ≡ Some w
  pub value : (number : ℕ) (w : Wire) → slice_get (banks file f at).values number ≡ Some w → slice_get (files.each file f at).of.nets (read_value number) ≡ Some w

abbrev pub FilesJoinReads : Type 0
FilesJoinReads = (design : Design) (d : Draft) (modules : List ModuleText) (banks : BanksFiles design d modules) (gives : GivesFiles design d modules banks) (file : ℕ) (f : File) (at : slice_get design.files file ≡ Some f)
    → JoinsReads design d modules banks gives.files file f at
