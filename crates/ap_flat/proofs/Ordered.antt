-- A netlist that is opened, its drivers and the order of its nets.
use Rattle.std.proofs.Common.{◌≡◌, ℕ, ◌<◌, List, length, Some, inl, inr, sym, subst}
use Rattle.std.specs.Prelude.{slice_get}
use Rattle.std.specs.List.{AllByRecursion as Each}
use Rattle.ap_net.specs.declared.cell.Wire.{Wire}
use Rattle.ap_net.specs.declared.net.Assign.{Assign}
use Rattle.ap_net.specs.declared.net.Port.{Port}
use Rattle.ap_net.specs.Cells.{CellFits, IsNet, operands}
use Rattle.ap_net.specs.Modules.{ModuleText, IsNetlist}
use Rattle.ap_net.specs.Flat.{Flat, IsOpenNetlist, equations, opened, plain_nets, top_ports}
use Rattle.ap_net.proofs.Lists.{All-at, All-map}
use Rattle.ap_net.proofs.OpenNetlists.{netlists_open}
use Rattle.ap_flat.specs.Dependence.{DependsIn, DependsOn, IsLooped, IsOrder}
use Rattle.ap_flat.specs.Drivers.{AreDrivers, AreWithin, Reads, reads_of}
use Rattle.ap_flat.specs.PortNets.{BeginsWithPorts}
use Rattle.ap_flat.specs.declared.driver.Driver.{Driver}
use Rattle.ap_flat.specs.declared.driver.Driver.TheVariants as driver
use Rattle.ap_flat.proofs.Driving.{depends, looped_by, net_low, no_loop, operands_low, order_by, reads}
use Rattle.ap_flat.proofs.Looking.{port_low}
use Rattle.ap_flat.proofs.TopPorts.{has_ports}

module _ (f : Flat) (ports : List Port) (is : IsOpenNetlist f) (begins : BeginsWithPorts ports f.nets) where
  -- all that drivers read is declared
  within : (drivers : List Driver) → AreDrivers f ports drivers → (n : ℕ) (by : Driver) → slice_get drivers n ≡ Some by → Each (λ m. m < length f.nets) (reads_of by)
  within drivers are n driver.Given at = tt
  within drivers are n (driver.Looks m) at = let l = are.looks n m at in (port_low ports f.nets begins m l.output l.at_output, tt)
  within drivers are n (driver.Equation cell) at =
      let d = are.only n cell at in
      let fits : CellFits (plain_nets f.nets) d.equation.to.width d.equation.cell = All-at (λ (a : Assign). CellFits (plain_nets f.nets) a.to.width a.cell) (equations f) d.place d.equation is.flat.cells d.among in
      All-map (λ m. m < length f.nets) (λ (o : Wire). o.number) (operands cell) (operands_low f.nets d.equation.to.width cell (subst (CellFits (plain_nets f.nets) d.equation.to.width) d.by fits))

  -- and so is what depends on something
  depends_low : (n m : ℕ) → DependsOn f ports n m → n < length f.nets
  depends_low n m (inl r) = subst (λ k. k < length f.nets) r.drives (net_low f.nets r.equation.to (All-at (λ (a : Assign). IsNet (plain_nets f.nets) a.to) (equations f) r.place r.equation is.flat.results r.among))
  depends_low n m (inr l) = port_low ports f.nets begins n l.input l.at_input

module _ (net : List ModuleText) (kept : IsNetlist net) where
  is_open : IsOpenNetlist (opened net)
  is_open = netlists_open net kept

  begins : BeginsWithPorts (top_ports net) (opened net).nets
  begins = (has_ports net kept).begins

  pub unlooped : (order : List ℕ) → IsOrder (DependsIn net) (length (opened net).nets) order → IsLooped (DependsIn net) → ⊥
  unlooped order o = no_loop (DependsIn net) (length (opened net).nets) order (depends_low (opened net) (top_ports net) is_open begins) o

  module _ (drivers : List Driver) (are : AreDrivers (opened net) (top_ports net) drivers) where
    pub drivers_within : AreWithin drivers (length drivers)
    drivers_within = subst (AreWithin drivers) (sym are.long) (within (opened net) (top_ports net) is_open begins drivers are)

    pub looped_in : IsLooped (Reads drivers) → IsLooped (DependsIn net)
    looped_in = looped_by (Reads drivers) (DependsIn net) (depends (opened net) (top_ports net) drivers are)

    pub ordered_in : (order : List ℕ) → IsOrder (Reads drivers) (length drivers) order → IsOrder (DependsIn net) (length (opened net).nets) order
    ordered_in order o = subst (λ n. IsOrder (DependsIn net) n order) are.long (order_by (Reads drivers) (DependsIn net) (length drivers) order (reads (opened net) (top_ports net) drivers are) o)
