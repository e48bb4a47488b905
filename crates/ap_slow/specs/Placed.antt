-- Units of several cycles in a processor's top: instances over wires that are driven later.
use Rattle.std.specs.Option.{option_map_or}
use Rattle.std.specs.Prelude.{◌≡◌, ◌≢◌, ◌⊎◌, ℕ, ◌<◌, ◌≤◌, List, [], ◌∷◌, ◌++◌, flat_map, length, map, slice_get, Some}
use Rattle.std.specs.List.{AllByRecursion as Each}
use Rattle.ap_bits.specs.declared.card.Latency.TheVariants.{WidthPlusOne}
use Rattle.ap_desc.specs.declared.design.Design.{Design}
use Rattle.ap_desc.specs.declared.design.Unit.{Unit as Resource}
use Rattle.ap_net.specs.declared.cell.Wire.{Wire}
use Rattle.ap_net.specs.declared.net.Instance.{Instance}
use Rattle.ap_net.specs.Cells.{IsNet}
use Rattle.ap_net.specs.Draft.{Draft, Extends, CanFresh, names_of}
use Rattle.ap_net.specs.Late.{IsLate, StayLate}
use Rattle.ap_net.specs.Modules.{Connects, ModuleText, ports_among}
use Rattle.ap_net.specs.Names.{IsNew, IsNotNumbered}
use Rattle.ap_net.specs.Pending.{Among, CameAmong}
use Rattle.ap_net.specs.Ready.{Dependence, ReadyAfter, numbers}
use Rattle.ap_net.specs.Wiring.{NoneTwice}
use Rattle.ap_signals.specs.NetRuns.{unit_part}
use Rattle.ap_unit.specs.Slow.{AreSlowInputs, IsReadyByUnit, input_nets, slow_needs}
use Rattle.ap_unit.specs.Units.{ports_by}
use Rattle.ap_slow.specs.declared.place.SlowPlaced.{SlowPlaced}

-- the wires of a unit that are driven later, and all nets at its ports, in order
abbrev pub late_nets : SlowPlaced → List Wire
late_nets x = input_nets x.inputs

abbrev pub port_nets : SlowPlaced → List Wire
port_nets x = x.inputs.sel ∷ x.inputs.a ∷ x.inputs.b ∷ x.inputs.go ∷ x.inputs.adv ∷ x.outputs.busy ∷ x.outputs.y ∷ []

-- Instances of these names came, and nets; all else stays.
pub record AddsParts (parts : List (List ℕ)) (old new : Draft) : Type 0 where
  pub extends : Extends old new
  pub nexts : new.nexts ≡ old.nexts
  pub ports : ports_among new.nets ≡ ports_among old.nets
  pub fresh : CanFresh new
  pub names : (name : List ℕ) → IsNotNumbered name → Each (λ part. part ≢ name) parts → IsNew name (names_of old) → IsNew name (names_of new)
  pub late : StayLate old new

-- a number of bits that a net may have
pub record IsFit (width : ℕ) : Type 0 where
  pub low : 1 ≤ width
  pub high : width ≤ 64

-- Wires of these widths came, no two of them one, each to be driven later; all else stays.
pub record DeclaresLate (widths : List ℕ) (made : List Wire) (old new : Draft) : Type 0 where
  pub wide : map (λ (w : Wire). w.width) made ≡ widths
  pub each : Each (IsLate new) made
  pub above : Each (λ (w : Wire). length old.nets ≤ w.number) made
  pub apart : NoneTwice (numbers made)
  pub adds : AddsParts [] old new
  pub instances : new.instances ≡ old.instances
  pub came : CameAmong (numbers made) old new

-- the module has the ports of a unit of several cycles
pub record HasSlowPorts (u : Resource) (m : ModuleText) : Type 0 where
  pub select : ℕ
  pub ports : m.ports ≡ ports_by WidthPlusOne select u.width

-- The unit stands in the draft: an instance of the module, over these nets. busy follows from go alone, y from all inputs but adv.
pub record StandsUnit (u : Resource) (whole : ModuleText) (d : Draft) (x : SlowPlaced) : Type 0 where
  pub k : ℕ
  pub of : Instance
  pub placed : slice_get d.instances k ≡ Some of
  pub named : of.name ≡ unit_part u
  pub joined : of.nets ≡ port_nets x
  pub connects : Connects whole of
  pub ports : whole.ports ≡ ports_by WidthPlusOne x.inputs.sel.width x.inputs.a.width
  pub wide : x.inputs.a.width ≡ u.width
  pub inputs : AreSlowInputs d.nets x.inputs
  pub busy : IsNet d.nets x.outputs.busy
  pub bit : x.outputs.busy.width ≡ 1
  pub y : IsNet d.nets x.outputs.y
  pub result : x.outputs.y.width ≡ u.width
  pub busy_ready : IsReadyByUnit whole.name d (x.inputs.go ∷ []) x.outputs.busy
  pub y_ready : IsReadyByUnit whole.name d (x.inputs.sel ∷ x.inputs.a ∷ x.inputs.b ∷ x.inputs.go ∷ []) x.outputs.y

-- A unit was placed over wires that are driven later. What else came is ready once these are.
pub record PlacesUnit (u : Resource) (whole : ModuleText) (x : SlowPlaced) (old new : Draft) : Type 0 where
  pub stands : StandsUnit u whole new x
  pub late : Each (IsLate new) (late_nets x)
  pub above : Each (λ (w : Wire). length old.nets ≤ w.number) (late_nets x)
  pub apart : NoneTwice (numbers (late_nets x))
  pub adds : AddsParts (unit_part u ∷ []) old new
  pub instances : new.instances ≡ old.instances ++ stands.of ∷ []
  pub nets : CameAmong (numbers (port_nets x)) old new
  pub came : (by : Dependence) → by.needs whole.name ≡ slow_needs → (n : ℕ) → length old.nets ≤ n → n < length new.nets → Among (numbers (late_nets x)) n ⊎ ReadyAfter by new (numbers (late_nets x)) n

-- All units.

-- the module of a unit of several cycles stands at the unit's place
pub record StandsAt (modules : List ModuleText) (places : List ℕ) (unit : ℕ) (whole : ModuleText) : Type 0 where
  pub place : ℕ
  pub there : slice_get places unit ≡ Some place
  pub at : slice_get modules place ≡ Some whole

pub record HasModule (modules : List ModuleText) (places : List ℕ) (unit : ℕ) (u : Resource) : Type 0 where
  pub whole : ModuleText
  pub stands : StandsAt modules places unit whole
  pub has : HasSlowPorts u whole

-- and the unit was placed as an instance of it
pub record PlacesOwn (modules : List ModuleText) (places : List ℕ) (unit : ℕ) (u : Resource) (x : SlowPlaced) (old new : Draft) : Type 0 where
  pub whole : ModuleText
  pub stands : StandsAt modules places unit whole
  pub placed : PlacesUnit u whole x old new

abbrev pub HaveModules : Design → List ModuleText → List ℕ → Type 0
HaveModules design modules places = (unit : ℕ) (u : Resource) → slice_get design.units unit ≡ Some u → 1 < u.latency → HasModule modules places unit u

-- the outputs of their modules depend on their inputs as those of such units do
abbrev pub NeedAsSlow : Design → List ModuleText → List ℕ → Dependence → Type 0
NeedAsSlow design modules places by = (unit : ℕ) (u : Resource) (whole : ModuleText) → slice_get design.units unit ≡ Some u → 1 < u.latency → StandsAt modules places unit whole → by.needs whole.name ≡ slow_needs

-- the unit stands in the draft, an instance of its own module
pub record IsPlaced (design : Design) (modules : List ModuleText) (places : List ℕ) (d : Draft) (x : SlowPlaced) : Type 0 where
  pub resource : Resource
  pub at : slice_get design.units x.unit ≡ Some resource
  pub slow : 1 < resource.latency
  pub whole : ModuleText
  pub there : StandsAt modules places x.unit whole
  pub stands : StandsUnit resource whole d x

-- an instance of the module of a unit of several cycles
pub record IsOfUnit (design : Design) (modules : List ModuleText) (places : List ℕ) (i : Instance) : Type 0 where
  pub unit : ℕ
  pub resource : Resource
  pub at : slice_get design.units unit ≡ Some resource
  pub slow : 1 < resource.latency
  pub whole : ModuleText
  pub there : StandsAt modules places unit whole
  pub connects : Connects whole i

-- the name of the instance of a unit
abbrev pub part_name : Design → ℕ → List ℕ
part_name design unit = option_map_or unit_part (slice_get design.units unit) []

-- The instances of all names that units of several cycles have may come.
abbrev pub AreNewParts : Design → Draft → Type 0
AreNewParts design d = (unit : ℕ) (u : Resource) → slice_get design.units unit ≡ Some u → IsNew (unit_part u) (names_of d)

-- These units were placed, in this order, over wires that are driven later, no two of them one. What else came is ready once these are. Nothing
-- came but the units' instances and the nets at their ports.
pub record PlacesUnits (design : Design) (modules : List ModuleText) (places : List ℕ) (units : List ℕ) (made : List SlowPlaced) (old new : Draft) : Type 0 where
  pub are : map (λ (x : SlowPlaced). x.unit) made ≡ units
  pub each : Each (IsPlaced design modules places new) made
  pub late : Each (IsLate new) (flat_map late_nets made)
  pub above : Each (λ (w : Wire). length old.nets ≤ w.number) (flat_map late_nets made)
  pub apart : NoneTwice (numbers (flat_map late_nets made))
  pub adds : AddsParts (map (part_name design) units) old new
  pub parts : List Instance
  pub instances : new.instances ≡ old.instances ++ parts
  pub own : Each (IsOfUnit design modules places) parts
  pub count : length parts ≡ length made
  pub nets : CameAmong (numbers (flat_map port_nets made)) old new
  pub came : (by : Dependence) → NeedAsSlow design modules places by → (n : ℕ) → length old.nets ≤ n → n < length new.nets → Among (numbers (flat_map late_nets made)) n ⊎ ReadyAfter by new (numbers (flat_map late_nets made)) n
