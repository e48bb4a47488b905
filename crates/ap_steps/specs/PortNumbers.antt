-- The ports of a top by their numbers, and where an outside looks for them.
use Rattle.std.specs.Prelude.{◌≡◌, ℕ, ◌+◌, ◌*◌, ◌<◌, ◌≤◌, codes, List, [], ◌∷◌, length, map, slice_get, Some}
use Rattle.std.specs.List.{AllByRecursion as Each}
use Rattle.ap_image.specs.declared.shape.MemShape.{MemShape}
use Rattle.ap_net.specs.declared.cell.Wire.{Wire}
use Rattle.ap_net.specs.declared.net.ModuleNet.{ModuleNet}
use Rattle.ap_net.specs.declared.net.Port.{Port}
use Rattle.ap_net.specs.Answering.{first_mem_port}
use Rattle.ap_net.specs.Draft.{Draft, Extends, IsKept}
use Rattle.ap_net.specs.Modules.{port_net}
use Rattle.ap_net.specs.Outside.{Outside, input, mem_name, output, ports_of}
use Rattle.ap_net.specs.Pending.{Among}
use Rattle.ap_net.specs.Ready.{Dependence, numbers}
use Rattle.ap_net.specs.Wiring.{IsSource}
use Rattle.ap_runs.specs.FirstPorts.{looks_of}
use Rattle.ap_steps.specs.Known.{AgreesAtKnown}
use Rattle.ap_steps.specs.TopOrder.{IsSeen}

-- a net of the draft that is this port is among these
pub record HasPort (nets : List ModuleNet) (known : List ℕ) (p : Port) : Type 0 where
  pub number : ℕ
  pub there : slice_get nets number ≡ Some (port_net p)
  pub among : Among known number

-- In a draft that grew from ports, a net with the name of one is this port; and where each port is among some nets, these have the numbers of all.
pub record PortsAreNumbered : Type 0 where
  pub number : (ports : List Port) (first d : Draft) → IsKept d → first.nets ≡ map port_net ports → Extends first d → (k n : ℕ) (p : Port) (net : ModuleNet) → slice_get ports k ≡ Some p → slice_get d.nets n ≡ Some net → net.name ≡ p.name → n ≡ k
  pub all : (ports : List Port) (first d : Draft) (known : List ℕ) → IsKept d → first.nets ≡ map port_net ports → Extends first d → Each (HasPort d.nets known) ports → (k : ℕ) → k < length first.nets → Among known k

-- A memory's read ports: what is read stands after where it's read, and the outside looks for it there.
pub record ReadPortsAre (o : Outside) (k : ℕ) (m : MemShape) : Type 0 where
  pub at : slice_get (ports_of o) (first_mem_port o + 5 * k) ≡ Some (output (mem_name m (codes "ra")) m.address)
  pub value : slice_get (ports_of o) (first_mem_port o + 5 * k + 1) ≡ Some (input (mem_name m (codes "rd")) m.width)
  pub looks : looks_of o (first_mem_port o + 5 * k + 1) ≡ (first_mem_port o + 5 * k) ∷ []

abbrev pub MemoriesAreLookedAt : Type 0
MemoriesAreLookedAt = (o : Outside) (k : ℕ) (m : MemShape) → slice_get o.mems k ≡ Some m → ReadPortsAre o k m

-- By a dependence that agrees at the known nets the outside looks for an input where it does for its port, and for a register at nothing.
pub record KnownAreSeen : Type 0 where
  pub ports : (o : Outside) (registers : List Wire) (by other : Dependence) (d : Draft) → by.looks ≡ looks_of o → AgreesAtKnown (length (ports_of o)) registers by other
      → (n : ℕ) (net : ModuleNet) → n < length (ports_of o) → slice_get d.nets n ≡ Some net → IsSource net.role → IsSeen other d (looks_of o n) n
  pub registers : (o : Outside) (registers : List Wire) (by other : Dependence) (d : Draft) → by.looks ≡ looks_of o → AgreesAtKnown (length (ports_of o)) registers by other
      → (n : ℕ) (net : ModuleNet) → length (ports_of o) ≤ n → Among (numbers registers) n → slice_get d.nets n ≡ Some net → IsSource net.role → IsSeen other d [] n
