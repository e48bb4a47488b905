-- The registers of flights can be driven, where they are open and the right nets come to them; and control has what it is given.
use Rattle.std.specs.Prelude.{◌≡◌, List, length, flat_map}
use Rattle.std.specs.List.{AllByRecursion as Each}
use Rattle.ap_desc.specs.Clean.{IsClean}
use Rattle.ap_desc.specs.declared.design.Design.{Design}
use Rattle.ap_net.specs.Cells.{IsNet}
use Rattle.ap_net.specs.Draft.{Draft, Extends, IsKept}
use Rattle.ap_pipe.specs.Slots.{AreSlotsOf}
use Rattle.ap_pipe.specs.declared.table.SlotTable.{SlotTable}
use Rattle.ap_ctl.specs.declared.nets.ControlGiven.{ControlGiven}
use Rattle.ap_ctl.specs.declared.nets.ControlNets.{ControlNets}
use Rattle.ap_ctl.specs.Building.{IsBit}
use Rattle.ap_ctl.specs.Given.{IsGiven, slow_units}
use Rattle.ap_ctl.specs.Nets.{AddsControl, IsControl}
use Rattle.ap_flight.specs.declared.stage.Coming.{Coming}
use Rattle.ap_flight.specs.Stages.{IsComing, stage_wires}
use Rattle.ap_front.specs.declared.ports.Ports.{Ports}
use Rattle.ap_front.specs.declared.registers.Registers.{Registers}
use Rattle.ap_front.specs.Controlling.{IsControlled, ShowsControl, words_of}
use Rattle.ap_front.specs.Driven.{AtPlace, CanDrive}
use Rattle.ap_front.specs.Opened.{AreOpen, NamesFront, front_wires}
use Rattle.ap_front.specs.Ports.{HasPorts}

-- The registers of the stages, open and apart, can be driven, where to each stage comes what it needs.
abbrev pub OpenCanBeDriven : Type 0
OpenCanBeDriven = (design : Design) (d : Draft) (table : SlotTable) (r : Registers) (comings : List Coming) → IsClean design → AreSlotsOf design table → NamesFront design d table.stages r → AreOpen d (flat_map stage_wires r.stages)
    → length comings ≡ length r.stages → AtPlace r.stages table.stages comings (λ q s c. IsComing q s.homes d.nets c) → CanDrive d r.stages table.stages comings

-- Of the pc and the registers of the stages, of ports and busy nets control has all that it is given.
abbrev pub FrontGivesControl : Type 0
FrontGivesControl = (design : Design) (d : Draft) (table : SlotTable) (r : Registers) (p : Ports) (given : ControlGiven) → IsClean design → AreSlotsOf design table → IsKept d → NamesFront design d table.stages r → Each (IsNet d.nets) (front_wires r) → HasPorts design d p
    → given.words ≡ words_of r.stages → given.mwait ≡ p.mwait → IsBit d.nets given.taken → length given.busy ≡ length (slow_units design) → Each (IsBit d.nets) given.busy → IsGiven design d.nets given

-- Control that was made of these, and its outputs, stand as the border asks; the net that stall shows is one of control's.
abbrev pub ControlStands : Type 0
ControlStands = (design : Design) (given : ControlGiven) (nets : ControlNets) (a b c d : Draft) (p : Ports) → HasPorts design a p → given.mwait ≡ p.mwait → AddsControl design given a b nets → IsControl design given b nets → Extends b c → (shows : ShowsControl nets p.stall p.kill c d)
    → IsControlled design d given nets shows.hold p.stall p.kill
