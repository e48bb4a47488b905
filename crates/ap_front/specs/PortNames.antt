-- All ports of a clean design's top can be declared: their names are names of the subset, and no two are one.
use Rattle.std.specs.Prelude.{codes}
use Rattle.ap_desc.specs.Clean.{IsClean}
use Rattle.ap_desc.specs.declared.design.Design.{Design}
use Rattle.ap_net.specs.Draft.{blank}
use Rattle.ap_front.specs.Ports.{CanDeclare, top_ports}

abbrev pub PortsAreNew : Type 0
PortsAreNew = (design : Design) → IsClean design → CanDeclare (top_ports design) (blank (codes "top"))
