-- What the first part of a top leaves to the pieces that come later: names, outputs and registers that take nothing yet.
use Rattle.std.specs.Prelude.{◌≡◌, ℕ, ◌<◌, List, [], ◌∷◌, codes, length, option_to_list}
use Rattle.std.specs.List.{AllByRecursion as Each}
use Rattle.ap_bits.specs.declared.card.Card.{Card}
use Rattle.ap_desc.specs.declared.design.Design.{Design}
use Rattle.ap_desc.specs.declared.design.File.{File}
use Rattle.ap_desc.specs.declared.design.Unit.{Unit as Resource}
use Rattle.ap_desc.specs.Designs.{index_bits}
use Rattle.ap_net.specs.declared.cell.Wire.{Wire}
use Rattle.ap_net.specs.Draft.{CanFresh, Draft, names_of}
use Rattle.ap_net.specs.Late.{IsLate}
use Rattle.ap_net.specs.Names.{IsNew}
use Rattle.ap_net.specs.Ready.{Dependence, ReadyAfter}
use Rattle.ap_net.specs.Wiring.{NoneTwice}
use Rattle.ap_pipe.specs.declared.table.StageSlots.{StageSlots}
use Rattle.ap_signals.specs.NetRuns.{unit_part, valid_name}
use Rattle.ap_store.specs.FilePorts.{file_module_name}
use Rattle.ap_ctl.specs.Lists.{EachPair}
use Rattle.ap_bank.specs.declared.bank.FileNets.{FileNets}
use Rattle.ap_bank.specs.LateNets.{IsLateWide}
use Rattle.ap_bank.specs.Placed.{IsWide, NeedsAsFile}
use Rattle.ap_front.specs.declared.ports.GroupPorts.{GroupPorts}
use Rattle.ap_front.specs.declared.ports.MemPorts.{MemPorts}
use Rattle.ap_front.specs.declared.ports.Ports.{Ports}
use Rattle.ap_front.specs.NewNames.{ported}
use Rattle.ap_front.specs.Opened.{AreOpen, front_wires}
use Rattle.ap_parts.specs.Known.{needs_by}
use Rattle.ap_parts.specs.Parts.{unit_module_name}
use Rattle.ap_lead.specs.declared.store.Lead.{Lead}
use Rattle.ap_lead.specs.Leading.{all_numbers}
use Rattle.ap_lead.specs.Storing.{FilesNeed, Leads}

-- the outputs of a memory, and of a write group, are driven later
pub record IsLateMem (d : Draft) (m : MemPorts) : Type 0 where
  pub read_address : IsLate d m.read_address
  pub enable : IsLate d m.enable
  pub address : IsLate d m.address
  pub value : IsLate d m.value

pub record IsLateGroup (d : Draft) (g : GroupPorts) : Type 0 where
  pub enable : IsLate d g.enable
  pub index : Each (IsLate d) (option_to_list g.index)
  pub value : IsLate d g.value

-- all outputs are
pub record AreLateOutputs (d : Draft) (p : Ports) : Type 0 where
  pub iaddr : IsLate d p.iaddr
  pub stall : IsLate d p.stall
  pub kill : IsLate d p.kill
  pub mems : Each (IsLateMem d) p.mems
  pub groups : Each (IsLateGroup d) p.groups

-- The names of valid bits and units are new, all outputs are driven later, no two ports have one number, and the registers of the front take
-- nothing yet.
pub record LeavesRest (design : Design) (made : Lead) (d : Draft) : Type 0 where
  pub top : d.name ≡ codes "top"
  pub fresh : CanFresh d
  pub valid : (stage : ℕ) → IsNew (valid_name stage) (names_of d)
  pub units : (u : Resource) → IsNew (unit_part u) (names_of d)
  pub outputs : AreLateOutputs d made.declared.ports
  pub apart : NoneTwice (all_numbers made.declared.ports)
  pub below : Each (λ n. n < length (ported design).nets) (all_numbers made.declared.ports)
  pub front : AreOpen d (front_wires made.declared.front)

abbrev pub LeadsLeaveRest : Type 0
LeadsLeaveRest = (design : Design) (stages : List StageSlots) (made : Lead) (a : Draft) → Leads design stages made a → LeavesRest design made a

-- By the names of the modules that are built for a shelf, files depend as they do.
abbrev pub KnownFilesNeed : Type 0
KnownFilesNeed = (cards : List Card) (design : Design) (by : Dependence) → by.needs ≡ needs_by (unit_module_name cards) design → FilesNeed by design

-- The nets at the read ports of a file: the indices have its bits and are driven later; what is shown has the bits of a cell, and is ready once
-- its index is.
pub record StandsFile (f : File) (nets : FileNets) (d : Draft) : Type 0 where
  pub reads : length nets.indices ≡ f.reads
  pub shows : length nets.shown ≡ f.reads
  pub late : Each (IsLateWide d (index_bits f)) nets.indices
  pub wide : Each (IsWide d.nets f.width) nets.shown
  pub ready : (by : Dependence) → NeedsAsFile by (file_module_name f) → EachPair (λ (index value : Wire). ReadyAfter by d (index.number ∷ []) value.number) nets.indices nets.shown

-- all files stand so
abbrev pub LeadFilesStand : Type 0
LeadFilesStand = (design : Design) (stages : List StageSlots) (made : Lead) (a : Draft) → Leads design stages made a → EachPair (λ (f : File) (nets : FileNets). StandsFile f nets a) design.files made.files
