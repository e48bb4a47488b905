-- What the first part of a top gives to the stages: the nets that they all read, and read ports of files.
use Rattle.std.specs.Prelude.{ℕ, List}
use Rattle.std.specs.List.{AllByRecursion as Each}
use Rattle.ap_bits.specs.declared.card.Card.{Card}
use Rattle.ap_desc.specs.Clean.{IsClean}
use Rattle.ap_desc.specs.declared.design.Design.{Design}
use Rattle.ap_net.specs.Draft.{Draft, Extends}
use Rattle.ap_net.specs.Late.{IsLate}
use Rattle.ap_net.specs.Modules.{ModuleText}
use Rattle.ap_net.specs.Ready.{numbers}
use Rattle.ap_net.specs.Wiring.{NoneTwice}
use Rattle.ap_pipe.specs.declared.table.StageSlots.{StageSlots}
use Rattle.ap_bank.specs.declared.bank.FileNets.{FileNets}
use Rattle.ap_bank.specs.FileBorder.{BanksFiles}
use Rattle.ap_ctl.specs.Lists.{EachPair}
use Rattle.ap_lead.specs.declared.store.Lead.{Lead}
use Rattle.ap_lead.specs.Storing.{Leads}
use Rattle.ap_parts.specs.Known.{HasParts, Knows}
use Rattle.ap_slow.specs.declared.place.SlowPlaced.{SlowPlaced}
use Rattle.ap_slow.specs.Placed.{PlacesUnits}
use Rattle.ap_stages.specs.declared.begin.SharedNets.{SharedNets}
use Rattle.ap_supply.specs.Apart.{late_of}
use Rattle.ap_supply.specs.Listing.{HaveReadNets}
use Rattle.ap_supply.specs.Supplies.{placed_of}
use Rattle.ap_staged.specs.Grounds.{AreSharedNamed, AreSharedOf}
use Rattle.ap_staged.specs.Ports.{HaveReads}
use Rattle.ap_staged.specs.Standing.{StandsFile}

-- Its registers and input ports are what they are named for, however the draft grows.
abbrev pub LeadsNameShared : Type 0
LeadsNameShared = (design : Design) (stages : List StageSlots) (made : Lead) (a d : Draft) (shared : SharedNets) → Leads design stages made a → Extends a d → AreSharedOf made.declared.regs made.declared.ports shared
    → AreSharedNamed design d shared

-- There are two nets for each read port of its files.
abbrev pub LeadsHaveReadNets : Type 0
LeadsHaveReadNets = (design : Design) (stages : List StageSlots) (made : Lead) (a : Draft) → Leads design stages made a → HaveReadNets design made.files

-- the files were banked, with their read ports at these nets
pub record BanksReads (design : Design) (d : Draft) (modules : List ModuleText) (made : List FileNets) : Type 0 where
  pub banks : BanksFiles design d modules
  pub reads : HaveReads design d modules banks made

-- So they are, however the draft grows, and whatever the modules are that have the design's parts.
abbrev pub LeadsBankReads : Type 0
LeadsBankReads = (design : Design) (stages : List StageSlots) (made : Lead) (a d : Draft) (knows : Knows) (cards : List Card) (modules : List ModuleText) → IsClean design → HasParts knows cards design modules → Leads design stages made a
    → Extends a d → BanksReads design d modules made.files

-- The read ports stand where their indices are driven later still.
abbrev pub LeadFilesStand : Type 0
LeadFilesStand = (design : Design) (stages : List StageSlots) (made : Lead) (a d : Draft) → Leads design stages made a → Extends a d → Each (λ (n : FileNets). Each (IsLate d) n.indices) made.files → EachPair (StandsFile d) design.files made.files

-- Over it units of several cycles were placed: then no two of all wires that stages drive are one.
abbrev pub PlacedWiresAreApart : Type 0
PlacedWiresAreApart = (design : Design) (stages : List StageSlots) (made : Lead) (a old new : Draft) (modules : List ModuleText) (places units : List ℕ) (slow : List SlowPlaced) → Leads design stages made a → Extends a old
    → PlacesUnits design modules places units slow old new → NoneTwice (numbers (late_of (placed_of modules places slow made.files made.declared.ports.mems)))
