-- Which nets of a module are driven, in a list by their numbers.
use Rattle.std.specs.Prelude.{◌≡◌, ◌<◌, ℕ, Bool, false, List, length, get_or}
use Rattle.ap_vr.specs.declared.module.NamedModule.{NamedModule}
use Rattle.ap_vr.specs.declared.nets.Nets.{Nets}
use Rattle.ap_vr.specs.Nets.{net_forms}
use Rattle.ap_vr.specs.Scope.{usable}

-- the marks as a test of numbers
abbrev pub marks : List Bool → ℕ → Bool
marks marked n = get_or marked n false

-- these are the nets of the module
pub record IsNetsOf (m : NamedModule) (nets : Nets) : Type 0 where
  pub names : nets.names ≡ usable m
  pub forms : nets.forms ≡ net_forms m

-- there are as many names as forms and marks
pub record AreNumbered (nets : Nets) (marked : List Bool) : Type 0 where
  pub names : length nets.names ≡ length marked
  pub forms : length nets.forms ≡ length marked
  pub some : 0 < length marked
