-- What a top knows of the modules whose instances it has, and when modules have all that a top needs.
use Rattle.std.specs.Prelude.{◌≡◌, ◌≢◌, ℕ, ◌+◌, ◌<◌, ◌≤◌, ◌&&◌, nat_lt, List, [], codes, length, map, slice_get, Some, if◌then◌else◌, true, Bool, unwrap_or}
use Rattle.std.specs.List.{AllByRecursion as Each, list_any}
use Rattle.std.specs.Option.{option_map_or}
use Rattle.std.specs.Str.{bytes_eq}
use Rattle.ap_bits.specs.Cards.{select_width}
use Rattle.ap_bits.specs.declared.card.Card.{Card}
use Rattle.ap_bits.specs.declared.card.Latency.{Latency}
use Rattle.ap_bits.specs.declared.card.Latency.TheVariants.{One, WidthPlusOne}
use Rattle.ap_desc.specs.Clean.{FitsCards}
use Rattle.ap_desc.specs.declared.design.Design.{Design}
use Rattle.ap_desc.specs.declared.design.File.{File}
use Rattle.ap_desc.specs.declared.design.Unit.{Unit as Resource}
use Rattle.ap_image.specs.Shapes.{AreDistinct}
use Rattle.ap_net.specs.Answering.{port_looks}
use Rattle.ap_ctl.specs.Lists.{EachPair}
use Rattle.ap_net.specs.declared.net.Instance.{Instance}
use Rattle.ap_net.specs.declared.net.Port.{Port}
use Rattle.ap_net.specs.Modules.{Connects, IsInstanceIn, IsModule, ModuleText, module_named}
use Rattle.ap_net.specs.Opened.{AreOrdered}
use Rattle.ap_net.specs.Ready.{Dependence}
use Rattle.ap_net.specs.Responding.{AreDependent}
use Rattle.ap_signals.specs.DesignOutside.{outside_of}
use Rattle.ap_store.specs.FileModules.{file_needs}
use Rattle.ap_store.specs.FilePorts.{file_ports}
use Rattle.ap_unit.specs.Slow.{slow_needs}
use Rattle.ap_unit.specs.Units.{IsUnit, ports_by}
use Rattle.ap_unit.specs.Kinds.{place_of}
use Rattle.ap_parts.specs.Parts.{AreBuilt, AreParts, HasFileModule, file_module_name, unit_module_name}

-- What may depend on what: units of several cycles and files depend as theirs do, by the names of their modules, and the outside looks where it
-- does, by the numbers of the ports, which are declared first.

abbrev pub is_slow_name : (Resource → List ℕ) → Design → List ℕ → Bool
is_slow_name names design name = list_any (λ (u : Resource). nat_lt 1 u.latency && bytes_eq name (names u)) design.units

abbrev pub is_file_name : Design → List ℕ → Bool
is_file_name design name = list_any (λ (f : File). bytes_eq name (file_module_name f)) design.files

abbrev pub needs_by : (Resource → List ℕ) → Design → List ℕ → ℕ → ℕ → Bool
needs_by names design name = if is_slow_name names design name then slow_needs else if is_file_name design name then file_needs else λ p q. true

abbrev pub dependence_of : (Resource → List ℕ) → Design → Dependence
dependence_of names design = record {
  looks = λ n. unwrap_or (slice_get (port_looks (outside_of design)) n) [];
  needs = needs_by names design;
}

-- What a top knows of its units' modules: their names, and the bits of the number of an operation. By these and by the units' widths and
-- latencies it knows their ports.
pub record Knows : Type 0 where
  pub names : Resource → List ℕ
  pub selects : Resource → ℕ

-- by the cards of a shelf
abbrev pub known_by : List Card → Knows
known_by cards = record { names = unit_module_name cards; selects = λ u. option_map_or select_width (slice_get cards u.kind) 1 }

-- the module of this name is a unit of the card, and has the ports that are known
pub record HasUnitNamed (cards : List Card) (modules : List ModuleText) (name : List ℕ) (select : ℕ) (u : Resource) : Type 0 where
  pub card : Card
  pub at : slice_get cards u.kind ≡ Some card
  pub whole : ModuleText
  pub found : module_named modules name ≡ Some whole
  pub is_unit : IsUnit whole card u.width
  pub same : select_width card ≡ select

-- These modules have all that a top needs.
pub record HasParts (knows : Knows) (cards : List Card) (design : Design) (modules : List ModuleText) : Type 0 where
  pub each : Each IsModule modules
  pub distinct : AreDistinct (map (λ (m : ModuleText). m.name) modules)
  pub below : Each (λ (m : ModuleText). m.name ≢ codes "top") modules
  pub ordered : AreOrdered modules
  pub dependent : AreDependent (dependence_of knows.names design) modules
  pub units : (unit : ℕ) (u : Resource) → slice_get design.units unit ≡ Some u → HasUnitNamed cards modules (knows.names u) (knows.selects u) u
  pub files : (file : ℕ) (f : File) → slice_get design.files file ≡ Some f → HasFileModule design modules file f

-- Ports by what is known: units of one cycle and of several have other ones.
abbrev pub latency_by : ℕ → Latency
latency_by cycles = if nat_lt 1 cycles then WidthPlusOne else One

abbrev pub known_ports : Knows → Resource → List Port
known_ports knows u = ports_by (latency_by u.latency) (knows.selects u) u.width

-- A module of this name and with these ports stands at this place.
pub record StandsThere (modules : List ModuleText) (place : ℕ) (name : List ℕ) (ports : List Port) : Type 0 where
  pub whole : ModuleText
  pub at : slice_get modules place ≡ Some whole
  pub named : whole.name ≡ name
  pub has : whole.ports ≡ ports

-- So a top can place an instance of each: the module of each unit stands at the unit's place, and those of the files stand behind those of the
-- kinds, in the order of the files. There are no more of them than units and files.
pub record AreKnown (knows : Knows) (design : Design) (modules : List ModuleText) (places : List ℕ) (kinds : ℕ) : Type 0 where
  pub units : EachPair (λ (u : Resource) (place : ℕ). StandsThere modules place (knows.names u) (known_ports knows u)) design.units places
  pub files : (file : ℕ) (f : File) → slice_get design.files file ≡ Some f → StandsThere modules (kinds + file) (file_module_name f) (file_ports f)
  pub within : kinds ≤ length modules
  pub few : length modules ≤ length design.units + length design.files

-- The first module of this name has these ports.
pub record IsFoundWith (modules : List ModuleText) (name : List ℕ) (ports : List Port) : Type 0 where
  pub whole : ModuleText
  pub found : module_named modules name ≡ Some whole
  pub has : whole.ports ≡ ports

-- The kind at this place is the first one of its name; and so is each kind that a unit of the design has. In a shelf all kinds have different
-- names, and a description means the first kind of the name that its unit has.
abbrev pub IsFirstKind : List Card → ℕ → Type 0
IsFirstKind cards kind = (card : Card) → slice_get cards kind ≡ Some card → place_of card.name cards ≡ Some kind

abbrev pub AreFirstKinds : List Card → Design → Type 0
AreFirstKinds cards design = Each (λ (u : Resource). IsFirstKind cards u.kind) design.units

-- What is built are the design's parts, they have all that a top needs, and the top knows them.
abbrev pub BuiltAreParts : Type 0
BuiltAreParts = (cards : List Card) (design : Design) (modules : List ModuleText) (places : List ℕ) (kinds : ℕ) → FitsCards design cards
    → AreFirstKinds cards design → AreBuilt cards design modules places kinds → AreParts cards design modules

abbrev pub BuiltHaveParts : Type 0
BuiltHaveParts = (cards : List Card) (design : Design) (modules : List ModuleText) (places : List ℕ) (kinds : ℕ) → FitsCards design cards
    → AreFirstKinds cards design → AreBuilt cards design modules places kinds → HasParts (known_by cards) cards design modules

abbrev pub BuiltAreKnown : Type 0
BuiltAreKnown = (cards : List Card) (design : Design) (modules : List ModuleText) (places : List ℕ) (kinds : ℕ) → FitsCards design cards
    → AreBuilt cards design modules places kinds → AreKnown (known_by cards) design modules places kinds

-- Any modules that have the parts have the ports that are known.
abbrev pub UnitsAreFound : Type 0
UnitsAreFound = (knows : Knows) (cards : List Card) (design : Design) (modules : List ModuleText) → FitsCards design cards
    → HasParts knows cards design modules → (unit : ℕ) (u : Resource) → slice_get design.units unit ≡ Some u
    → IsFoundWith modules (knows.names u) (known_ports knows u)

abbrev pub FilesAreFound : Type 0
FilesAreFound = (knows : Knows) (cards : List Card) (design : Design) (modules : List ModuleText) → HasParts knows cards design modules
    → (file : ℕ) (f : File) → slice_get design.files file ≡ Some f → IsFoundWith modules (file_module_name f) (file_ports f)

-- an instance of a module of such a name and ports is an instance of the one that is found
abbrev pub InstancesFit : Type 0
InstancesFit = (modules : List ModuleText) (m : ModuleText) (i : Instance) → Connects m i → IsFoundWith modules m.name m.ports
    → IsInstanceIn modules i

-- A unit of several cycles and a file depend as they should, by the names of their modules.
abbrev pub UnitsNeed : Type 0
UnitsNeed = (knows : Knows) (design : Design) (unit : ℕ) (u : Resource) → slice_get design.units unit ≡ Some u → 1 < u.latency
    → needs_by knows.names design (knows.names u) ≡ slow_needs

abbrev pub FilesNeed : Type 0
FilesNeed = (cards : List Card) (design : Design) (file : ℕ) (f : File) → slice_get design.files file ≡ Some f
    → needs_by (unit_module_name cards) design (file_module_name f) ≡ file_needs
