-- What a declared port is to the pieces that take it.
use Rattle.std.specs.Prelude.{◌≡◌, [], true}
use Rattle.ap_net.specs.declared.cell.Wire.{Wire}
use Rattle.ap_net.specs.declared.net.Port.{Port}
use Rattle.ap_net.specs.Cells.{IsNet}
use Rattle.ap_net.specs.Draft.{Draft, Extends, IsKept}
use Rattle.ap_net.specs.Late.{IsLate}
use Rattle.ap_desc.specs.declared.design.Design.{Design}
use Rattle.ap_border.specs.Named.{IsNamed}
use Rattle.ap_front.specs.declared.ports.Ports.{Ports}
use Rattle.ap_front.specs.Ports.{HasPorts, IsPort}

-- it stands at its name, and is a net with its bits; an output is driven later where nothing is driven yet; all ports stay where the
-- draft grows
pub record PortsAreNets : Type 0 where
  pub named : (d : Draft) (p : Port) (w : Wire) → IsPort d p w → IsNamed d p.name w
  pub net : (d : Draft) (p : Port) (w : Wire) → IsKept d → IsPort d p w → IsNet d.nets w
  pub late : (d : Draft) (p : Port) (w : Wire) → IsKept d → d.assigns ≡ [] → d.instances ≡ [] → p.output ≡ true → IsPort d p w → IsLate d w
  pub goes : (design : Design) (a b : Draft) (p : Ports) → Extends a b → HasPorts design a p → HasPorts design b p
