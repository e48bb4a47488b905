-- What the first part of a top gives: to the border, and to the order in which nets are ready.
use Rattle.std.specs.Prelude.{◌≡◌, ◌⊎◌, ℕ, ◌<◌, ◌≤◌, List, [], ◌∷◌, ◌++◌, flat_map, length, map, option_to_list, slice_get, Some}
use Rattle.std.specs.List.{AllByRecursion as Each}
use Rattle.ap_bits.specs.declared.card.Card.{Card}
use Rattle.ap_desc.specs.Clean.{IsClean}
use Rattle.ap_desc.specs.declared.design.Design.{Design}
use Rattle.ap_desc.specs.declared.design.File.{File}
use Rattle.ap_net.specs.declared.net.Instance.{Instance}
use Rattle.ap_net.specs.Draft.{Draft, Extends}
use Rattle.ap_net.specs.Modules.{IsInstanceIn, ModuleText}
use Rattle.ap_net.specs.Pending.{Among, CameAmong}
use Rattle.ap_net.specs.Ready.{Dependence, ReadyAfter, numbers}
use Rattle.ap_pipe.specs.declared.table.StageSlots.{StageSlots}
use Rattle.ap_bank.specs.declared.bank.FileNets.{FileNets}
use Rattle.ap_bank.specs.Border.{BanksRegs}
use Rattle.ap_bank.specs.FileBorder.{IsBanked}
use Rattle.ap_front.specs.declared.ports.GroupPorts.{GroupPorts}
use Rattle.ap_front.specs.declared.ports.MemPorts.{MemPorts}
use Rattle.ap_front.specs.declared.ports.Ports.{Ports}
use Rattle.ap_front.specs.NewNames.{ported}
use Rattle.ap_front.specs.Opened.{front_wires}
use Rattle.ap_parts.specs.Known.{HasParts, Knows}
use Rattle.ap_steps.specs.Steps.{AtEachStep, Grows, Step}
use Rattle.ap_steps.specs.TopOrder.{MemNumbers, StepFollows, mem_numbers, step}
use Rattle.ap_lead.specs.declared.store.Lead.{Lead}
use Rattle.ap_lead.specs.Declaring.{opened}
use Rattle.ap_lead.specs.Storing.{FilesNeed, Leads, index_numbers}
use Rattle.ap_lead.specs.Writes.{file_writes, reg_writes}

-- However the draft grows, its registers take what is written.
abbrev pub LeadGivesRegs : Type 0
LeadGivesRegs = (design : Design) (stages : List StageSlots) (made : Lead) (a d : Draft) → Leads design stages made a → Extends a d
    → BanksRegs design d made.declared.regs (reg_writes made.declared.ports.groups (length design.regs))

-- the file of this number was banked over the outputs that show its writes
pub record HasBanked (design : Design) (d : Draft) (modules : List ModuleText) (made : Lead) (file : ℕ) (f : File) : Type 0 where
  pub nets : FileNets
  pub at : slice_get made.files file ≡ Some nets
  pub banked : IsBanked design d modules file f (file_writes made.declared.ports.groups file f.writes) nets

-- And each file was banked, whatever the modules are that have the design's parts.
abbrev pub LeadGivesFiles : Type 0
LeadGivesFiles = (design : Design) (stages : List StageSlots) (made : Lead) (a d : Draft) (knows : Knows) (cards : List Card) (modules : List ModuleText) → IsClean design
    → HasParts knows cards design modules → Leads design stages made a → Extends a d
    → (file : ℕ) (f : File) → slice_get design.files file ≡ Some f → HasBanked design d modules made file f

-- Each instance of a file is one of any modules that have the design's parts.
abbrev pub FilesAreInstances : Type 0
FilesAreInstances = (knows : Knows) (cards : List Card) (design : Design) (modules : List ModuleText) (stages : List StageSlots) (made : Lead) (new : Draft)
    → HasParts knows cards design modules → (h : Leads design stages made new) → Each (IsInstanceIn modules) h.stores.placed

-- The numbers of the ports: the inputs but the word that is fetched; where a memory is read, and what is read; the outputs at which the writes
-- of memories, registers and files are shown.
abbrev pub given_numbers : Ports → List ℕ
given_numbers p = p.mwait.number ∷ numbers p.inputs

abbrev pub mem_read : MemPorts → MemNumbers
mem_read m = record { at = m.read_address.number; value = m.read.number }

abbrev pub mem_write : MemPorts → List ℕ
mem_write m = m.enable.number ∷ m.address.number ∷ m.value.number ∷ []

abbrev pub group_numbers : GroupPorts → List ℕ
group_numbers g = g.enable.number ∷ g.value.number ∷ numbers (option_to_list g.index)

abbrev pub output_numbers : Ports → List ℕ
output_numbers p = flat_map mem_write p.mems ++ flat_map group_numbers p.groups

-- those of all ports
abbrev pub all_numbers : Ports → List ℕ
all_numbers p = p.iaddr.number ∷ p.idata.number ∷ p.stall.number ∷ p.kill.number ∷ given_numbers p ++ (flat_map mem_numbers (map mem_read p.mems) ++ output_numbers p)

-- The first steps of a top: the drafts, with the files' instances.
abbrev pub steps_to : Draft → Draft → Draft → Draft → List Instance → List Step
steps_to opened declared registered filed files = step opened [] ∷ step declared [] ∷ step registered [] ∷ step filed files ∷ []

-- What came in each step, and that each grows from the one before.
pub record LeadFollows (by : Dependence) (design : Design) (stages : List StageSlots) (made : Lead) (new : Draft) (h : Leads design stages made new) : Type 0 where
  pub ports : (k : ℕ) → k < length (ported design).nets → Among (all_numbers made.declared.ports) k
  pub front_came : CameAmong (numbers (front_wires made.declared.front)) (ported design) (opened design stages)
  pub regs_came : CameAmong (numbers made.declared.regs) (opened design stages) h.first
  pub registered : StepFollows by (numbers made.declared.regs ++ output_numbers made.declared.ports) h.first h.driven
  pub filed : (k : ℕ) → length h.driven.nets ≤ k → k < length new.nets → Among (index_numbers made.files) k ⊎ ReadyAfter by new (index_numbers made.files) k
  pub files : List Instance
  pub grows : AtEachStep Grows (ported design) (steps_to (opened design stages) h.first h.driven new files)
  pub files_are : files ≡ h.stores.placed

abbrev pub LeadsFollow : Type 0
LeadsFollow = (by : Dependence) (design : Design) (stages : List StageSlots) (made : Lead) (new : Draft) (h : Leads design stages made new) → FilesNeed by design
    → LeadFollows by design stages made new h
