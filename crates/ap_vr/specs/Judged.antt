-- The faults of a text whose lines have their form, by the modules that they make: the kinds are looked at one after another.
use Rattle.std.specs.Prelude.{◌≡◌, ◌⊎◌, ℕ, List, [], Option, Some, None}
use Rattle.ap_vr.specs.declared.fault.NetFault.{NetFault}
use Rattle.ap_vr.specs.declared.fault.NetFault.TheVariants.{NoMemory, At}
use Rattle.ap_vr.specs.declared.fault.NetKind.{NetKind}
use Rattle.ap_vr.specs.declared.fault.NetKind.TheVariants as kind
use Rattle.ap_vr.specs.declared.judging.Rule.{Rule}
use Rattle.ap_vr.specs.declared.judging.Rule.TheVariants as rule
use Rattle.ap_vr.specs.declared.module.NamedModule.{NamedModule}
use Rattle.ap_vr.specs.Driving.{driven_twice_in, undriven_in}
use Rattle.ap_vr.specs.Reading.{AreModulesOf, IsFormFault, IsWellFormed}
use Rattle.ap_vr.specs.Scope.{first_by, first_repeated, first_unknown}
use Rattle.ap_vr.specs.Widths.{misfit_in}

-- the first line of a module that a rule finds
abbrev pub line_by : Rule → (List ℕ → Option NamedModule) → NamedModule → Option ℕ
line_by rule.DrivenTwice found m = driven_twice_in found m
line_by rule.Undriven found m = undriven_in found m
line_by rule.Misfit found m = misfit_in found m

abbrev pub first_driven_twice : List NamedModule → Option ℕ
first_driven_twice modules = first_by (line_by rule.DrivenTwice) [] modules

abbrev pub first_undriven : List NamedModule → Option ℕ
first_undriven modules = first_by (line_by rule.Undriven) [] modules

abbrev pub first_misfit : List NamedModule → Option ℕ
first_misfit modules = first_by (line_by rule.Misfit) [] modules

-- the names that lines use are declared, and once
abbrev pub AreNamed : List NamedModule → Type 0
AreNamed modules = (first_unknown modules ≡ None) × (first_repeated modules ≡ None)

-- and nets are driven, and once
abbrev pub AreDriven : List NamedModule → Type 0
AreDriven modules = (first_driven_twice modules ≡ None) × (first_undriven modules ≡ None)

-- no line has a fault
pub record IsFaultless (modules : List NamedModule) : Type 0 where
  pub named : AreNamed modules
  pub driven : AreDriven modules
  pub fit : first_misfit modules ≡ None

-- the fault of some lines: a kind is looked at only where no kind before it holds, and the first line counts
abbrev pub HasFault : List NamedModule → ℕ → NetKind → Type 0
HasFault modules line kind.BadForm = ⊥
HasFault modules line kind.UnknownName = first_unknown modules ≡ Some line
HasFault modules line kind.TwiceNamed = (first_unknown modules ≡ None) × (first_repeated modules ≡ Some line)
HasFault modules line kind.TwiceDriven = AreNamed modules × (first_driven_twice modules ≡ Some line)
HasFault modules line kind.NotDriven = AreNamed modules × (first_driven_twice modules ≡ None) × (first_undriven modules ≡ Some line)
HasFault modules line kind.WidthDiffers = AreNamed modules × AreDriven modules × (first_misfit modules ≡ Some line)

-- why modules are refused: they have this fault, or memory ran out
abbrev pub IsFaultOf : List NamedModule → NetFault → Type 0
IsFaultOf modules (At line kind) = HasFault modules line kind
IsFaultOf modules NoMemory = Unit {0}

-- why a text is refused: it isn't of the form; or it is, and its modules have this fault; or memory ran out
abbrev pub IsTextFault : List ℕ → NetFault → Type 0
IsTextFault text fault = IsFormFault text fault ⊎ (IsWellFormed text × ((modules : List NamedModule) × AreModulesOf text modules × IsFaultOf modules fault))
