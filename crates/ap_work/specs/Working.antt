-- The second part of a processor's top: units of several cycles, control, and what control tells the units.
use Rattle.std.specs.Prelude.{◌≡◌, ℕ, List, [], ◌∷◌, map}
use Rattle.std.specs.List.{AllByRecursion as Each}
use Rattle.ap_desc.specs.Clean.{IsClean}
use Rattle.ap_desc.specs.declared.design.Design.{Design}
use Rattle.ap_net.specs.declared.cell.Wire.{Wire}
use Rattle.ap_net.specs.Cells.{IsNet}
use Rattle.ap_net.specs.Draft.{Draft, Extends, IsKept}
use Rattle.ap_net.specs.Modules.{ModuleText}
use Rattle.ap_pipe.specs.declared.table.SlotTable.{SlotTable}
use Rattle.ap_pipe.specs.Slots.{AreSlotsOf}
use Rattle.ap_ctl.specs.declared.nets.ControlNets.{ControlNets}
use Rattle.ap_ctl.specs.Building.{IsBit}
use Rattle.ap_ctl.specs.Given.{IsGiven, slow_units}
use Rattle.ap_ctl.specs.Nets.{AddsControl, FollowsGiven, IsControl}
use Rattle.ap_front.specs.declared.ports.Ports.{Ports}
use Rattle.ap_front.specs.declared.registers.Registers.{Registers}
use Rattle.ap_front.specs.Controlling.{IsControlled, ShowsControl, words_of}
use Rattle.ap_front.specs.Opened.{AreOpen, NamesFront, front_wires}
use Rattle.ap_front.specs.Ports.{HasPorts}
use Rattle.ap_slow.specs.declared.place.SlowPlaced.{SlowPlaced}
use Rattle.ap_slow.specs.Driven.{AreThere, DrivesUnits}
use Rattle.ap_slow.specs.Placed.{DeclaresLate, PlacesUnits}
use Rattle.ap_work.specs.declared.work.Work.{Work}

-- What the second part needs of the first: the ports, and the registers of the front by their names, with the slots of the design.
pub record HasFront (design : Design) (d : Draft) (r : Registers) (p : Ports) : Type 0 where
  pub table : SlotTable
  pub slots : AreSlotsOf design table
  pub names : NamesFront design d table.stages r
  pub nets : Each (IsNet d.nets) (front_wires r)
  pub ports : HasPorts design d p

-- Ports and open registers are that in each later draft.
abbrev pub OpenFrontsStand : Type 0
OpenFrontsStand = (design : Design) (table : SlotTable) (r : Registers) (p : Ports) (a d : Draft) → AreSlotsOf design table
    → NamesFront design a table.stages r → AreOpen a (front_wires r) → HasPorts design a p → Extends a d → HasFront design d r p

-- where a unit says that it isn't done
abbrev pub busy_net : SlowPlaced → Wire
busy_net x = x.outputs.busy

-- Control is given the words of the stages, mwait, the wire of what is taken, and the busy nets of the units in their order.
pub record GivesControl (r : Registers) (p : Ports) (made : Work) : Type 0 where
  pub words : made.given.words ≡ words_of r.stages
  pub wait : made.given.mwait ≡ p.mwait
  pub taken : made.given.taken ≡ made.taken
  pub busy : made.given.busy ≡ map busy_net made.units

-- The second part of a top, draft by draft: the units were placed, the wire of what is taken was declared, control was made of what it is
-- given, and the units were driven.
pub record Works (design : Design) (r : Registers) (p : Ports) (own : List ModuleText) (places : List ℕ) (made : Work) (old new : Draft) : Type 0 where
  pub united : Draft
  pub stood : Draft
  pub controlled : Draft
  pub placed : PlacesUnits design own places (slow_units design) made.units old united
  pub declares : DeclaresLate (1 ∷ []) (made.taken ∷ []) united stood
  pub kept : IsKept stood
  pub gives : GivesControl r p made
  pub there : IsGiven design stood.nets made.given
  pub control : IsControl design made.given controlled made.nets
  pub adds : AddsControl design made.given stood controlled made.nets
  pub follows : FollowsGiven made.given stood controlled made.nets
  pub drives : DrivesUnits design made.nets made.units controlled new

-- The nets of control stand in the draft, each with one bit.
pub record AreControlNets (design : Design) (d : Draft) (nets : ControlNets) : Type 0 where
  pub there : AreThere design d nets
  pub fires : Each (IsBit d.nets) nets.fires
  pub kill : IsBit d.nets nets.kill

-- They do so in each later draft, and control is there as it was made.
pub record StandsControlled (design : Design) (made : Work) (d : Draft) : Type 0 where
  pub given : IsGiven design d.nets made.given
  pub control : IsControl design made.given d made.nets
  pub nets : AreControlNets design d made.nets

abbrev pub WorkStands : Type 0
WorkStands = (design : Design) (r : Registers) (p : Ports) (own : List ModuleText) (places : List ℕ) (made : Work)
    (old new d : Draft) → IsClean design → Works design r p own places made old new → Extends new d → StandsControlled design made d

-- Once outputs show what it says, it stands as the border asks, in each later draft.
abbrev pub WorkIsControlled : Type 0
WorkIsControlled = (design : Design) (r : Registers) (p : Ports) (own : List ModuleText) (places : List ℕ) (made : Work)
    (old new c d : Draft) → Works design r p own places made old new → HasPorts design old p → Extends new c
    → (shows : ShowsControl made.nets p.stall p.kill c d) → IsControlled design d made.given made.nets shows.hold p.stall p.kill
