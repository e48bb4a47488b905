-- The first two parts of a top: ports, registers and files; units of several cycles and control.
use Rattle.std.specs.Prelude.{◌≡◌, ℕ, List, codes}
use Rattle.ap_bits.specs.declared.card.Card.{Card}
use Rattle.ap_desc.specs.Clean.{FitsCards}
use Rattle.ap_desc.specs.declared.design.Design.{Design}
use Rattle.ap_net.specs.Draft.{CanFresh, Draft}
use Rattle.ap_net.specs.Modules.{ModuleText}
use Rattle.ap_pipe.specs.declared.table.SlotTable.{SlotTable}
use Rattle.ap_pipe.specs.Slots.{AreSlotsOf}
use Rattle.ap_ctl.specs.Nets.{HasNoValid}
use Rattle.ap_slow.specs.Placed.{AreNewParts, HaveModules}
use Rattle.ap_parts.specs.Known.{AreKnown, HasParts, Knows, known_by}
use Rattle.ap_lead.specs.declared.store.Lead.{Lead}
use Rattle.ap_lead.specs.Storing.{Leads}
use Rattle.ap_work.specs.Working.{HasFront, Works}
use Rattle.ap_gen.specs.declared.start.Start.{Start}

-- A top knows these modules, by cards that the design fits: at the places of the units and behind the kinds stand modules with the names and
-- ports that it wants, and they have all that it needs.
pub record KnowsParts (design : Design) (modules : List ModuleText) (places : List ℕ) (kinds : ℕ) : Type 0 where
  pub cards : List Card
  pub fits : FitsCards design cards
  pub has : HasParts (known_by cards) cards design modules
  pub known : AreKnown (known_by cards) design modules places kinds

-- The first part came, and the second over it.
pub record Starts (design : Design) (slots : SlotTable) (modules : List ModuleText) (places : List ℕ) (made : Start) (new : Draft) : Type 0 where
  pub filed : Draft
  pub leads : Leads design slots.stages made.lead filed
  pub works : Works design made.lead.declared.front made.lead.declared.ports modules places made.work filed new

-- The second part can be made over the first.
pub record CanControl (design : Design) (lead : Lead) (d : Draft) : Type 0 where
  pub front : HasFront design d lead.declared.front lead.declared.ports
  pub units : AreNewParts design d
  pub valid : HasNoValid design d
  pub top : d.name ≡ codes "top"
  pub fresh : CanFresh d

abbrev pub LeadsAreControlled : Type 0
LeadsAreControlled = (design : Design) (slots : SlotTable) (lead : Lead) (d : Draft) → AreSlotsOf design slots → Leads design slots.stages lead d → CanControl design lead d

-- and the modules of its units are there
abbrev pub KnownAreSlow : Type 0
KnownAreSlow = (knows : Knows) (design : Design) (modules : List ModuleText) (places : List ℕ) (kinds : ℕ) → AreKnown knows design modules places kinds → HaveModules design modules places
