-- What is kept of an opened netlist.
use Rattle.std.specs.Prelude.{ℕ, List, length}
use Rattle.ap_net.specs.Flat.{Flat, IsOpenNetlist}
use Rattle.ap_net.specs.Outside.{Outside, ports_of}
use Rattle.ap_flat.specs.Clocked.{AreAllClocked}
use Rattle.ap_flat.specs.declared.driver.Driver.{Driver}
use Rattle.ap_flat.specs.Dependence.{DependsOn, IsOrder}
use Rattle.ap_flat.specs.Drivers.{AreDrivers}
use Rattle.ap_flat.specs.PortNets.{BeginsWithPorts}
use Rattle.ap_flat.specs.Ports.{IsOutside}

-- the netlist, what drives each net, an order of the nets, and the outside
pub record FlatParts : Type 0 where
  pub net : Flat
  pub drivers : List Driver
  pub order : List ℕ
  pub outside : Outside

-- what every opened netlist without a loop and with the ports due keeps
pub record IsFlattened (f : FlatParts) : Type 0 where
  pub opened : IsOpenNetlist f.net
  pub clocked : AreAllClocked f.net
  pub outside : IsOutside f.outside
  pub ports : BeginsWithPorts (ports_of f.outside) f.net.nets
  pub drivers : AreDrivers f.net (ports_of f.outside) f.drivers
  pub order : IsOrder (DependsOn f.net (ports_of f.outside)) (length f.net.nets) f.order
