-- A text is judged in one way, whatever netlist and outside are found for it.
use Rattle.std.specs.Prelude.{◌≡◌, ℕ, List}
use Rattle.ap_flat.specs.Flats.{FlatParts, IsFlattened}
use Rattle.ap_image.specs.Shapes.{Shape}
use Rattle.ap_image.specs.TextFaults.{Judge}
use Rattle.ap_image.specs.declared.fault.TextKind.{TextKind}
use Rattle.ap_net.specs.Answering.{AlwaysRuns}
use Rattle.ap_net.specs.Modules.{ModuleText}
use Rattle.ap_net.specs.Outside.{Outside, shape_of}
use Rattle.ap_sim.specs.declared.fault.RunKind.{RunKind}
use Rattle.ap_sim.specs.Inputs.{IsFaultlessFor, IsLeastFor}
use Rattle.ap_sim.specs.Runnable.{CanRun, HasRunFault, IsRunnable}

-- a text whose netlist can be run has no fault
abbrev pub RunnableAreFaultless : Type 0
RunnableAreFaultless = (text : List ℕ) → CanRun text → (kind : RunKind) (line : ℕ) → HasRunFault text kind line → ⊥

-- it spells one netlist, which asks for one shape
abbrev pub OneShapeIsAsked : Type 0
OneShapeIsAsked = (text : List ℕ) (a b : List ModuleText) (o p : Outside) → IsRunnable text a o → IsRunnable text b p → (a ≡ b) × (shape_of o ≡ shape_of p)

-- and a text that is judged by it has no fault, or is refused
abbrev pub FaultlessAreTaken : Type 0
FaultlessAreTaken = (judge : Shape → Judge) (netlist text : List ℕ) → IsFaultlessFor judge netlist text → (kind : TextKind) (line : ℕ) → IsLeastFor judge netlist text kind line → ⊥

-- a netlist that is opened runs on every image and trace that fit, for any number of cycles
abbrev pub OpenedNetlistsRun : Type 0
OpenedNetlistsRun = (flat : FlatParts) → IsFlattened flat → AlwaysRuns flat.outside flat.net
