-- What is kept of an opened netlist.
use Rattle.std.specs.Prelude.{ℕ, List}
use Rattle.ap_net.specs.Flat.{Flat}
use Rattle.ap_flat.specs.declared.driver.Driver.{Driver}

-- the netlist, what drives each net, and an order of the nets
pub record OpenedParts : Type 0 where
  pub net : Flat
  pub drivers : List Driver
  pub order : List ℕ
