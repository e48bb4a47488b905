-- What is kept of a netlist that was opened.
use Rattle.std.proofs.Common.{◌≡◌, List, length, sym, subst}
use Rattle.ap_net.specs.declared.net.Port.{Port}
use Rattle.ap_net.specs.Modules.{ModuleText, IsNetlist}
use Rattle.ap_net.specs.Flat.{Flat, IsOpenNetlist, opened, top_ports}
use Rattle.ap_net.specs.Outside.{ports_of}
use Rattle.ap_net.proofs.OpenNetlists.{netlists_open}
use Rattle.ap_flat.specs.declared.order.OrderFault.{OrderFault}
use Rattle.ap_flat.specs.declared.order.OrderFault.TheVariants as order
use Rattle.ap_flat.specs.declared.flat.FlatFault.TheVariants as fault
use Rattle.ap_flat.specs.Dependence.{DependsIn, DependsOn, IsOrder}
use Rattle.ap_flat.specs.Drivers.{AreDrivers}
use Rattle.ap_flat.specs.PortNets.{BeginsWithPorts}
use Rattle.ap_flat.specs.Ports.{AreDue}
use Rattle.ap_flat.specs.Clocked.{AreAllClocked}
use Rattle.ap_flat.specs.Flats.{FlatParts, IsFlattened}
use Rattle.ap_flat.specs.FlatFaults.{flat_fault}
use Rattle.ap_flat.proofs.Clocked.{netlist_clocked}
use Rattle.ap_flat.proofs.TopPorts.{has_ports}

pub flattened : (net : List ModuleText) (f : FlatParts) → IsNetlist net → f.net ≡ opened net → AreDrivers (opened net) (top_ports net) f.drivers → IsOrder (DependsIn net) (length (opened net).nets) f.order → AreDue (top_ports net) f.outside → IsFlattened f
flattened net f kept same drivers order due = record {
  opened = subst IsOpenNetlist (sym same) (netlists_open net kept);
  clocked = subst AreAllClocked (sym same) (netlist_clocked net kept);
  outside = due.outside;
  ports = subst (λ (g : Flat). BeginsWithPorts (ports_of f.outside) g.nets) (sym same) (subst (λ (ps : List Port). BeginsWithPorts ps (opened net).nets) due.same (has_ports net kept).begins);
  drivers = subst (λ (g : Flat). AreDrivers g (ports_of f.outside) f.drivers) (sym same) (subst (λ (ps : List Port). AreDrivers (opened net) ps f.drivers) due.same drivers);
  order = subst (λ (g : Flat). IsOrder (DependsOn g (ports_of f.outside)) (length g.nets) f.order) (sym same) (subst (λ (ps : List Port). IsOrder (DependsOn (opened net) ps) (length (opened net).nets) f.order) due.same order);
}

-- the faults of an order
pub loop_only : (x : OrderFault) → flat_fault x ≡ fault.Loop → x ≡ order.Loop
loop_only order.Loop e = cc
loop_only order.NoMemory e = absurd cc

pub never_bad : (x : OrderFault) → flat_fault x ≡ fault.BadPorts → ⊥
never_bad order.Loop e = cc
never_bad order.NoMemory e = cc
