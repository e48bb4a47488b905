-- The ports of top among the nets of an opened netlist.
use Rattle.std.specs.Prelude.{◌≡◌, ◌≢◌, ℕ, ◌++◌, List, map, slice_get, Some}
use Rattle.ap_net.specs.declared.net.Port.{Port}
use Rattle.ap_net.specs.declared.net.FlatNet.{FlatNet}
use Rattle.ap_net.specs.declared.net.Role.TheVariants as role
use Rattle.ap_net.specs.Modules.{port_net}
use Rattle.ap_net.specs.Flat.{top_net}

-- the nets are these ports in their order, and then others that are no inputs
pub record BeginsWithPorts (ports : List Port) (nets : List FlatNet) : Type 0 where
  pub others : List FlatNet
  pub split : nets ≡ map (λ (p : Port). top_net (port_net p)) ports ++ others
  pub within : (n : ℕ) (net : FlatNet) → slice_get others n ≡ Some net → net.role ≢ role.Input
