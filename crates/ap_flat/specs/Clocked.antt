-- Every register of an opened netlist takes something at the edge.
use Rattle.std.specs.Prelude.{◌≡◌, ℕ, List, slice_get, Some}
use Rattle.std.specs.List.{AllByRecursion as Each}
use Rattle.ap_net.specs.declared.net.FlatNet.{FlatNet}
use Rattle.ap_net.specs.declared.net.Role.TheVariants as role
use Rattle.ap_net.specs.Flat.{Flat, opened_over}
use Rattle.ap_net.specs.Modules.{IsModule, ModuleText}
use Rattle.ap_net.specs.Wiring.{Unclocked}

abbrev pub AreAllClocked : Flat → Type 0
AreAllClocked f = (n : ℕ) (net : FlatNet) (reset : ℕ) → slice_get f.nets n ≡ Some net → net.role ≡ role.Register reset → Unclocked f.nexts n → ⊥

-- so it is where the modules keep their rules
abbrev pub OpenedAreClocked : Type 0
OpenedAreClocked = (modules : List ModuleText) (top : ModuleText) → Each IsModule modules → IsModule top → AreAllClocked (opened_over modules top)
