-- Declared ports as nets.
use Rattle.std.proofs.Common.{◌≡◌, ℕ, zero, suc, ◌≤◌, Bool, true, if◌then◌else◌, List, [], ◌∷◌, Some, refl, sym, ap, subst, ◌∙◌}
use Rattle.std.specs.Prelude.{slice_get}
use Rattle.ap_desc.specs.declared.design.Design.{Design}
use Rattle.ap_model.specs.Ports.{write_groups}
use Rattle.ap_net.specs.declared.cell.Wire.{Wire}
use Rattle.ap_net.specs.declared.net.Assign.{Assign}
use Rattle.ap_net.specs.declared.net.Instance.{Instance}
use Rattle.ap_net.specs.declared.net.ModuleNet.{ModuleNet}
use Rattle.ap_net.specs.declared.net.Port.{Port}
use Rattle.ap_net.specs.declared.net.Role.TheVariants as role
use Rattle.ap_net.specs.Cells.{IsNet, widths_of}
use Rattle.ap_net.specs.Draft.{Draft, Extends, IsKept}
use Rattle.ap_net.specs.Late.{IsLate}
use Rattle.ap_net.specs.Modules.{port_net}
use Rattle.ap_net.specs.Wiring.{IsFree, IsSource, Undriven, Unjoined}
use Rattle.ap_net.proofs.Lists.{All-at, some_same}
use Rattle.ap_border.specs.Named.{IsNamed}
use Rattle.ap_front.specs.declared.ports.Ports.{Ports}
use Rattle.ap_front.specs.PortNets.{PortsAreNets}
use Rattle.ap_front.specs.Ports.{AreMemPorts, ArePortsOf, HasPorts, IsInput, IsPort}
use Rattle.ap_front.proofs.Porting.{AreMemPorts-Extends, ArePortsOf-Extends, IsPort-Extends, pairs_weaker}

wide_at : (nets : List ModuleNet) (i : ℕ) (net : ModuleNet) → slice_get nets i ≡ Some net → slice_get (widths_of nets) i ≡ Some net.width
wide_at [] i net at = cc
wide_at (x ∷ nets) zero net at = let same : x ≡ net = cc in ap (λ (n : ModuleNet). Some n.width) same
wide_at (x ∷ nets) (suc i) net at = wide_at nets i net at

pub port_named : (d : Draft) (p : Port) (w : Wire) → IsPort d p w → IsNamed d p.name w
port_named d p w h = record { net = port_net p; there = h.there; named = refl }

pub port_is_net : (d : Draft) (p : Port) (w : Wire) → IsKept d → IsPort d p w → IsNet d.nets w
port_is_net d p w kept h =
    let fit = All-at (λ (n : ModuleNet). (1 ≤ n.width) × (n.width ≤ 64)) d.nets w.number (port_net p) kept.wired.widths h.there in
    record { declared = wide_at d.nets w.number (port_net p) h.there ∙ ap Some (sym h.wide); low = subst (λ n. 1 ≤ n) (sym h.wide) fit.0; high = subst (λ n. n ≤ 64) (sym h.wide) fit.1 }

output_free : (d : Draft) (p : Port) (w : Wire) → p.output ≡ true → IsPort d p w → IsFree d.nets w.number
output_free d p w out h net at source =
    let same : port_net p ≡ net = some_same (sym h.there ∙ at) in
    let kind : net.role ≡ role.Output = ap (λ (n : ModuleNet). n.role) (sym same) ∙ ap (λ (b : Bool). if b then role.Output else role.Input) out in
    subst IsSource kind source

pub port_is_late : (d : Draft) (p : Port) (w : Wire) → IsKept d → d.assigns ≡ [] → d.instances ≡ [] → p.output ≡ true → IsPort d p w → IsLate d w
port_is_late d p w kept assigns instances out h = record {
  net = port_is_net d p w kept h;
  free = output_free d p w out h;
  undriven = subst (λ (l : List Assign). Undriven l w.number) (sym assigns) tt;
  unjoined = subst (λ (l : List Instance). Unjoined l w.number) (sym instances) tt;
}

pub ports_go_on : (design : Design) (a b : Draft) (p : Ports) → Extends a b → HasPorts design a p → HasPorts design b p
ports_go_on design a b p e h = record {
  iaddr = IsPort-Extends e h.iaddr;
  idata = IsPort-Extends e h.idata;
  mwait = IsPort-Extends e h.mwait;
  inputs = pairs_weaker (IsInput a) (IsInput b) (λ i w k. IsPort-Extends e k) design.inputs p.inputs h.inputs;
  mems = pairs_weaker (AreMemPorts a) (AreMemPorts b) (λ m q k. AreMemPorts-Extends e k) design.mems p.mems h.mems;
  stall = IsPort-Extends e h.stall;
  kill = IsPort-Extends e h.kill;
  groups = pairs_weaker (ArePortsOf design a) (ArePortsOf design b) (λ q g k. ArePortsOf-Extends e k) (write_groups design) p.groups h.groups;
}

pub ports_are_nets : PortsAreNets
ports_are_nets = record { named = port_named; net = port_is_net; late = port_is_late; goes = ports_go_on }
