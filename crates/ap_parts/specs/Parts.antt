-- The modules of which a generated top has instances: one for each kind and width that a unit has, and one for each file.
use Rattle.std.specs.Prelude.{◌≡◌, ℕ, ◌++◌, ◌==◌, ◌&&◌, Bool, List, [], ◌∷◌, codes, length, map, position, slice_get, Option, Some, None, IsSomeAnd}
use Rattle.std.specs.Fmt.{decimal}
use Rattle.std.specs.Option.{option_map_or}
use Rattle.ap_bits.specs.Cards.{FitsWidth}
use Rattle.ap_bits.specs.declared.card.Card.{Card}
use Rattle.ap_bank.specs.PortStages.{AreWriteStages}
use Rattle.ap_ctl.specs.Lists.{EachFrom, EachPair}
use Rattle.ap_desc.specs.declared.design.Design.{Design}
use Rattle.ap_desc.specs.declared.design.File.{File}
use Rattle.ap_desc.specs.declared.design.Unit.{Unit as Resource}
use Rattle.ap_net.specs.Modules.{IsModule, ModuleText, module_named}
use Rattle.ap_store.specs.FileModules.{IsFile}
pub use Rattle.ap_store.specs.FilePorts.{file_module_name}
use Rattle.ap_unit.specs.Units.{IsUnit}
use Rattle.ap_parts.specs.declared.modules.KindWidth.{KindWidth}

-- the name of the card of this place; none where there is none
abbrev pub kind_name : List Card → ℕ → List ℕ
kind_name cards kind = option_map_or (λ (c : Card). c.name) (slice_get cards kind) []

-- the module of a kind and a width
abbrev pub kind_module_name : List ℕ → ℕ → List ℕ
kind_module_name kind width = codes "k_" ++ (kind ++ (codes "_" ++ decimal width))

abbrev pub unit_module_name : List Card → Resource → List ℕ
unit_module_name cards u = kind_module_name (kind_name cards u.kind) u.width

-- the kind and width of a unit
abbrev pub kind_of : Resource → KindWidth
kind_of u = record { kind = u.kind; width = u.width }

abbrev pub is_alike : KindWidth → KindWidth → Bool
is_alike p q = (q.kind == p.kind) && (q.width == p.width)

-- at the end of the list, where it isn't there
abbrev pub with_kind_at : Option ℕ → List KindWidth → KindWidth → List KindWidth
with_kind_at None kinds p = kinds ++ p ∷ []
with_kind_at (Some place) kinds p = kinds

abbrev pub with_kind : List KindWidth → KindWidth → List KindWidth
with_kind kinds p = with_kind_at (position (is_alike p) kinds) kinds p

-- the kinds and widths of these units besides those that are there, each once, in the order of the first unit of each
abbrev pub kinds_of : List KindWidth → List Resource → List KindWidth
kinds_of kinds [] = kinds
kinds_of kinds (u ∷ units) = kinds_of (with_kind kinds (kind_of u)) units

-- the unit's kind and width stand at this place
abbrev pub StandsAt : List KindWidth → Resource → ℕ → Type 0
StandsAt kinds u place = slice_get kinds place ≡ Some (kind_of u)

-- the shelf has the kind, which has the width
abbrev pub FitsShelf : List Card → KindWidth → Type 0
FitsShelf cards p = IsSomeAnd (slice_get cards p.kind) (λ c. FitsWidth c p.width)

-- the module of a kind of the shelf
pub record IsKindModule (cards : List Card) (p : KindWidth) (m : ModuleText) : Type 0 where
  pub card : Card
  pub at : slice_get cards p.kind ≡ Some card
  pub name : m.name ≡ kind_module_name card.name p.width
  pub is_unit : IsUnit m card p.width
  pub kept : IsModule m

-- the names of all modules before top
abbrev pub part_names : List Card → Design → List (List ℕ)
part_names cards design = map (λ (p : KindWidth). kind_module_name (kind_name cards p.kind) p.width) (kinds_of [] design.units)
    ++ map file_module_name design.files

-- the module of a unit: found by its name, and a unit of its card
pub record HasUnitModule (cards : List Card) (modules : List ModuleText) (u : Resource) : Type 0 where
  pub card : Card
  pub at : slice_get cards u.kind ≡ Some card
  pub whole : ModuleText
  pub found : module_named modules (unit_module_name cards u) ≡ Some whole
  pub is_unit : IsUnit whole card u.width

-- the module of a file
pub record HasFileModule (design : Design) (modules : List ModuleText) (file : ℕ) (f : File) : Type 0 where
  pub whole : ModuleText
  pub found : module_named modules (file_module_name f) ≡ Some whole
  pub stages : List ℕ
  pub are : AreWriteStages design file f.writes stages
  pub is_file : IsFile whole f stages

-- what is made for the file of a number
pub record IsFileModule (design : Design) (file : ℕ) (f : File) (m : ModuleText) : Type 0 where
  pub name : m.name ≡ file_module_name f
  pub stages : List ℕ
  pub are : AreWriteStages design file f.writes stages
  pub is_file : IsFile m f stages
  pub kept : IsModule m

abbrev pub IsNthFile : Design → ℕ → ModuleText → Type 0
IsNthFile design file m = (f : File) × (slice_get design.files file ≡ Some f) × IsFileModule design file f m

-- those of the first so many files, in their order
pub record AreFirstFiles (design : Design) (count : ℕ) (modules : List ModuleText) : Type 0 where
  pub count_is : length modules ≡ count
  pub each : EachFrom (IsNthFile design) 0 modules

-- they came at the end of these modules
pub record AddsFiles (design : Design) (count : ℕ) (old new : List ModuleText) : Type 0 where
  pub files : List ModuleText
  pub is : new ≡ old ++ files
  pub are : AreFirstFiles design count files

-- The modules of the kinds and widths that units have, each once, and then those of the files; and for each unit the place of its own.
pub record AreBuilt (cards : List Card) (design : Design) (modules : List ModuleText) (places : List ℕ) (kinds : ℕ) : Type 0 where
  pub firsts : List ModuleText
  pub count : kinds ≡ length firsts
  pub are_kinds : EachPair (IsKindModule cards) (kinds_of [] design.units) firsts
  pub adds : AddsFiles design (length design.files) firsts modules
  pub stand : EachPair (StandsAt (kinds_of [] design.units)) design.units places

-- the modules before top, no others, in this order
pub record AreParts (cards : List Card) (design : Design) (modules : List ModuleText) : Type 0 where
  pub names : map (λ (m : ModuleText). m.name) modules ≡ part_names cards design
  pub units : (unit : ℕ) (u : Resource) → slice_get design.units unit ≡ Some u → HasUnitModule cards modules u
  pub files : (file : ℕ) (f : File) → slice_get design.files file ≡ Some f → HasFileModule design modules file f
