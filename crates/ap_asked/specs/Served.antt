-- The units of several cycles of a finished draft: what the border asks of them, by how they were placed and driven.
use Rattle.std.specs.Prelude.{◌≡◌, ℕ, ◌<◌, true, List, codes, map, slice_get, Some}
use Rattle.std.specs.List.{AllByRecursion as Each}
use Rattle.ap_bits.specs.declared.card.Card.{Card}
use Rattle.ap_desc.specs.Clean.{FitsCards}
use Rattle.ap_desc.specs.declared.design.Design.{Design}
use Rattle.ap_desc.specs.declared.design.Unit.{Unit as Resource}
use Rattle.ap_net.specs.Draft.{Draft, Extends}
use Rattle.ap_net.specs.Modules.{ModuleText}
use Rattle.ap_signals.specs.NetSignals.{is_slow_unit_of}
use Rattle.ap_ctl.specs.declared.nets.ControlGiven.{ControlGiven}
use Rattle.ap_ctl.specs.declared.nets.ControlNets.{ControlNets}
use Rattle.ap_ctl.specs.Given.{IsGiven, slow_units}
use Rattle.ap_ctl.specs.Lists.{EachPair}
use Rattle.ap_ctl.specs.Nets.{IsControl}
use Rattle.ap_stage.specs.declared.serve.SlowUnit.{SlowUnit}
use Rattle.ap_border.specs.Control.{IsBusyOf}
use Rattle.ap_border.specs.SlowUnits.{HasSlowUnit}
use Rattle.ap_data.specs.Units.{JoinsUnit}
use Rattle.ap_parts.specs.Known.{AreKnown, HasParts, Knows}
use Rattle.ap_slow.specs.declared.place.SlowPlaced.{SlowPlaced}
use Rattle.ap_slow.specs.Driven.{DrivesUnits, IsServed}
use Rattle.ap_slow.specs.Placed.{HaveModules, PlacesUnits, StandsUnit}

-- The unit stands as an instance of the module that is known, and is asked by the stage that uses it.
pub record IsServedUnit (knows : Knows) (design : Design) (d : Draft) (nets : ControlNets) (x : SlowPlaced) : Type 0 where
  pub resource : Resource
  pub at : slice_get design.units x.unit ≡ Some resource
  pub slow : 1 < resource.latency
  pub whole : ModuleText
  pub named : whole.name ≡ knows.names resource
  pub stands : StandsUnit resource whole d x
  pub served : IsServed design nets d x

-- a top with control over modules that have the parts of the design
pub record IsTopWithControl (knows : Knows) (cards : List Card) (design : Design) (d : Draft) (modules : List ModuleText) (given : ControlGiven) (nets : ControlNets) : Type 0 where
  pub fits : FitsCards design cards
  pub parts : HasParts knows cards design modules
  pub top : d.name ≡ codes "top"
  pub there : IsGiven design d.nets given
  pub control : IsControl design given d nets

-- The modules that a top knows are those that its units want.
abbrev pub KnownHaveModules : Type 0
KnownHaveModules = (knows : Knows) (design : Design) (own : List ModuleText) (places : List ℕ) (kinds : ℕ) → AreKnown knows design own places kinds → HaveModules design own places

-- Units that were placed, over modules that a top knows, and driven are served in each later draft.
abbrev pub PlacedAreServed : Type 0
PlacedAreServed = (knows : Knows) (design : Design) (own : List ModuleText) (places : List ℕ) (kinds : ℕ) (nets : ControlNets) (made : List SlowPlaced) (a b c e d : Draft) → AreKnown knows design own places kinds
    → PlacesUnits design own places (slow_units design) made a b → Extends b d → DrivesUnits design nets made c e → Extends e d → Each (IsServedUnit knows design d nets) made

-- what the border asks of the unit in its stage, by this instance
pub record GivesSlowUnit (cards : List Card) (design : Design) (d : Draft) (modules : List ModuleText) (given : ControlGiven) (nets : ControlNets) (stage unit k : ℕ) : Type 0 where
  pub has : HasSlowUnit design d modules given nets stage unit
  pub part : has.k ≡ k
  pub card : slice_get cards (has.resource).kind ≡ Some has.card

abbrev pub ServedUnitsGiveBorder : Type 0
ServedUnitsGiveBorder = (knows : Knows) (cards : List Card) (design : Design) (d : Draft) (modules : List ModuleText) (given : ControlGiven) (nets : ControlNets) → IsTopWithControl knows cards design d modules given nets
    → (x : SlowPlaced) (h : IsServedUnit knows design d nets x) (stage : ℕ) → is_slow_unit_of design stage x.unit ≡ true → GivesSlowUnit cards design d modules given nets stage x.unit (h.stands).k

-- its busy net is that of the unit
abbrev pub ServedUnitsShowBusy : Type 0
ServedUnitsShowBusy = (knows : Knows) (cards : List Card) (design : Design) (d : Draft) (modules : List ModuleText) (nets : ControlNets) → FitsCards design cards → HasParts knows cards design modules → d.name ≡ codes "top"
    → (x : SlowPlaced) → IsServedUnit knows design d nets x → IsBusyOf design d modules x.unit x.outputs.busy

-- and so are those of all, as control is given them
abbrev pub ServedUnitsGiveBusy : Type 0
ServedUnitsGiveBusy = (knows : Knows) (cards : List Card) (design : Design) (d : Draft) (modules : List ModuleText) (nets : ControlNets) → FitsCards design cards → HasParts knows cards design modules → d.name ≡ codes "top"
    → (made : List SlowPlaced) → Each (IsServedUnit knows design d nets) made → EachPair (IsBusyOf design d modules) (map (λ (x : SlowPlaced). x.unit) made) (map (λ (x : SlowPlaced). x.outputs.busy) made)

-- the stage's port has the wires of the unit
pub record HasWires (s : SlowUnit) (x : SlowPlaced) : Type 0 where
  pub sel : s.sel ≡ x.inputs.sel
  pub a : s.a ≡ x.inputs.a
  pub b : s.b ≡ x.inputs.b
  pub y : s.y ≡ x.outputs.y

abbrev pub ServedUnitsAreJoined : Type 0
ServedUnitsAreJoined = (knows : Knows) (cards : List Card) (design : Design) (d : Draft) (modules : List ModuleText) (nets : ControlNets) → HasParts knows cards design modules
    → (x : SlowPlaced) (h : IsServedUnit knows design d nets x) (s : SlowUnit) → HasWires s x → JoinsUnit d modules (h.stands).k s
