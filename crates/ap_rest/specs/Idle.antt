-- Units that take one cycle and that no line uses, in a processor's top: instances over nets that are always 0.
use Rattle.std.specs.Prelude.{◌≡◌, ◌≢◌, ℕ, ◌≤◌, ◌&&◌, not, true, Bool, List, [], ◌∷◌, ◌++◌, filter, length, slice_get, Some}
use Rattle.std.specs.List.{AllByRecursion as Each, range_with_len}
use Rattle.ap_bits.specs.declared.card.Latency.TheVariants.{One}
use Rattle.ap_desc.specs.Ports.{unit}
use Rattle.ap_desc.specs.declared.design.Design.{Design}
use Rattle.ap_desc.specs.declared.design.Unit.{Unit as Resource}
use Rattle.ap_net.specs.declared.cell.Wire.{Wire}
use Rattle.ap_net.specs.declared.net.Instance.{Instance}
use Rattle.ap_net.specs.Draft.{Draft, Extends, CanFresh, names_of}
use Rattle.ap_net.specs.Late.{StayLate}
use Rattle.ap_net.specs.Modules.{Connects, ModuleText, ports_among}
use Rattle.ap_net.specs.Names.{IsNew, IsNotNumbered}
use Rattle.ap_net.specs.Ready.{Dependence}
use Rattle.ap_signals.specs.NetRuns.{unit_part}
use Rattle.ap_unit.specs.Units.{ports_by}
use Rattle.ap_ctl.specs.Given.{is_slow_unit}
use Rattle.ap_ctl.specs.Lists.{EachPair}
use Rattle.ap_bank.specs.Joins.{IsAtRest}
use Rattle.ap_slow.specs.Placed.{StandsAt}
use Rattle.ap_steps.specs.Intervals.{CameAfter}
use Rattle.ap_rest.specs.Uses.{is_port_used}

-- the unit takes one cycle and no line uses it
abbrev pub is_idle : Design → ℕ → Bool
is_idle design number = not (is_slow_unit design number) && not (is_port_used design (unit number))

-- those units, in the order of their declaration
abbrev pub idle_units : Design → List ℕ
idle_units design = filter (is_idle design) (range_with_len 0 (length design.units))

-- The modules.

-- the module has the ports of a unit of one cycle
pub record HasQuickPorts (u : Resource) (m : ModuleText) : Type 0 where
  pub select : ℕ
  pub ports : m.ports ≡ ports_by One select u.width

-- the module of a unit of one cycle stands at the unit's place
pub record HasQuickModule (modules : List ModuleText) (places : List ℕ) (number : ℕ) (u : Resource) : Type 0 where
  pub whole : ModuleText
  pub stands : StandsAt modules places number whole
  pub has : HasQuickPorts u whole

abbrev pub HaveQuickModules : Design → List ModuleText → List ℕ → Type 0
HaveQuickModules design modules places = (number : ℕ) (u : Resource) → slice_get design.units number ≡ Some u → u.latency ≤ 1 → HasQuickModule modules places number u

-- The names of the instances are new.
abbrev pub AreNewIdle : Design → Draft → Type 0
AreNewIdle design d = (number : ℕ) (u : Resource) → slice_get design.units number ≡ Some u → is_idle design number ≡ true → IsNew (unit_part u) (names_of d)

-- What is placed.

-- an instance of the module with the unit's name, whose inputs are always 0
pub record IsIdleInstance (u : Resource) (whole : ModuleText) (d : Draft) (i : Instance) : Type 0 where
  pub named : i.name ≡ unit_part u
  pub connects : Connects whole i
  pub sel : Wire
  pub a : Wire
  pub b : Wire
  pub y : Wire
  pub over : i.nets ≡ sel ∷ a ∷ b ∷ y ∷ []
  pub sel_rests : IsAtRest d sel
  pub a_rests : IsAtRest d a
  pub b_rests : IsAtRest d b

-- These instances came, in this order, and nets that follow from nothing; all else stays.
pub record AddsIdle (placed : List Instance) (old new : Draft) : Type 0 where
  pub extends : Extends old new
  pub nexts : new.nexts ≡ old.nexts
  pub instances : new.instances ≡ old.instances ++ placed
  pub ports : ports_among new.nets ≡ ports_among old.nets
  pub fresh : CanFresh new
  pub names : (name : List ℕ) → IsNotNumbered name → Each (λ (i : Instance). i.name ≢ name) placed → IsNew name (names_of old) → IsNew name (names_of new)
  pub late : StayLate old new
  pub came : (by : Dependence) → CameAfter by [] old new

-- one unit was placed
pub record PlacesIdle (u : Resource) (whole : ModuleText) (old new : Draft) : Type 0 where
  pub of : Instance
  pub is : IsIdleInstance u whole new of
  pub adds : AddsIdle (of ∷ []) old new

-- as an instance of the module at its place
pub record PlacesOwn (modules : List ModuleText) (places : List ℕ) (number : ℕ) (u : Resource) (old new : Draft) : Type 0 where
  pub whole : ModuleText
  pub stands : StandsAt modules places number whole
  pub placed : PlacesIdle u whole old new

-- the unit stands in the draft, an instance of its own module
pub record IsIdleUnit (design : Design) (modules : List ModuleText) (places : List ℕ) (d : Draft) (number : ℕ) (i : Instance) : Type 0 where
  pub resource : Resource
  pub at : slice_get design.units number ≡ Some resource
  pub quick : resource.latency ≤ 1
  pub whole : ModuleText
  pub stands : StandsAt modules places number whole
  pub is : IsIdleInstance resource whole d i

-- These units were placed, in this order, and nothing else.
pub record IdlesUnits (design : Design) (modules : List ModuleText) (places : List ℕ) (units : List ℕ) (old new : Draft) : Type 0 where
  pub placed : List Instance
  pub each : EachPair (IsIdleUnit design modules places new) units placed
  pub adds : AddsIdle placed old new
