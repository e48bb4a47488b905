-- A module that was built in steps from its ports on.
use Rattle.std.specs.Prelude.{◌≡◌, ◌≢◌, ℕ, ◌<◌, ◌≤◌, List, [], ◌∷◌, ◌++◌, length, map, codes}
use Rattle.std.specs.List.{AllByRecursion as Each}
use Rattle.ap_net.specs.declared.cell.Wire.{Wire}
use Rattle.ap_net.specs.declared.net.Port.{Port}
use Rattle.ap_net.specs.Answering.{LooksByPorts, port_looks}
use Rattle.ap_net.specs.Draft.{Draft, Extends, IsKept}
use Rattle.ap_net.specs.Finished.{IsFinished}
use Rattle.ap_net.specs.Modules.{IsInstanceIn, IsModule, IsNetlist, ModuleText, port_net, ports_among}
use Rattle.ap_net.specs.Names.{AreDistinct}
use Rattle.ap_net.specs.Outside.{Outside, ports_of}
use Rattle.ap_net.specs.Ready.{AllReady, Dependence}
use Rattle.ap_net.specs.Responding.{looked_in}
use Rattle.ap_net.specs.Wiring.{IsDriven}
use Rattle.ap_runs.specs.FirstPorts.{BeginsWithPorts, looks_of}
use Rattle.ap_steps.specs.Clocked.{IsClocked}
use Rattle.ap_steps.specs.Intervals.{BeginningIsReady, StepIsReady}
use Rattle.ap_steps.specs.Known.{AgreesAtKnown}
use Rattle.ap_steps.specs.Steps.{AtEachStep, Grows, Step, last_draft, placed_by}

-- ports that were declared first come first in each draft that grew from them
abbrev pub PortsComeFirst : Type 0
PortsComeFirst = (ports : List Port) (first d : Draft) (count : ℕ) → first.nets ≡ map port_net ports → Extends first d → count ≤ length ports → BeginsWithPorts d count

-- and the outside of a processor looks for ports alone
abbrev pub OutsideLooksForPorts : Type 0
OutsideLooksForPorts = (o : Outside) → length (port_looks o) ≤ length (ports_of o)

-- The steps begin with the ports of the outside and with nothing else. Each grows from the one before. By an outside that looks where it
-- does for ports, and at nothing for these registers, what came in each step is ready in the last draft; and the registers take something there.
pub record IsBuilt (by : Dependence) (o : Outside) (registers : List Wire) (first : Draft) (steps : List Step) : Type 0 where
  pub name : first.name ≡ codes "top"
  pub begins : first.nets ≡ map port_net (ports_of o)
  pub bare : first.instances ≡ []
  pub grows : AtEachStep Grows first steps
  pub kept : IsKept (last_draft first steps)
  pub looks : by.looks ≡ looks_of o
  pub ports : (other : Dependence) → AgreesAtKnown (length (ports_of o)) registers by other → BeginningIsReady other (last_draft first steps) first
  pub ready : (other : Dependence) → AgreesAtKnown (length (ports_of o)) registers by other → AtEachStep (StepIsReady other (last_draft first steps)) first steps
  pub clocked : Each (IsClocked (last_draft first steps)) registers

-- then it can be finished: every net has its driver, and there is a port
pub record CanFinish (d : Draft) : Type 0 where
  pub driven : IsDriven d.nets d.assigns d.nexts d.instances
  pub port : 0 < length (ports_among d.nets)

abbrev pub BuiltCanFinish : Type 0
BuiltCanFinish = (by : Dependence) (o : Outside) (registers : List Wire) (first : Draft) (steps : List Step) → IsBuilt by o registers first steps → CanFinish (last_draft first steps)

-- Finished it has the ports of the outside, which looks where it is said to.
pub record IsFinishedTop (by : Dependence) (o : Outside) (d : Draft) (top : ModuleText) : Type 0 where
  pub kept : IsKept d
  pub ready : AllReady by d
  pub finished : IsFinished d top
  pub name : top.name ≡ codes "top"
  pub ports : top.ports ≡ ports_of o
  pub looks : LooksByPorts o (looked_in top finished.place finished.back by.looks)

abbrev pub BuiltAreFinished : Type 0
BuiltAreFinished = (by : Dependence) (o : Outside) (registers : List Wire) (first : Draft) (steps : List Step) (top : ModuleText) → IsBuilt by o registers first steps
    → IsFinished (last_draft first steps) top → IsFinishedTop by o (last_draft first steps) top

-- modules that can stand before a top
pub record CanPrecede (modules : List ModuleText) : Type 0 where
  pub each : Each IsModule modules
  pub distinct : AreDistinct (map (λ (m : ModuleText). m.name) modules)
  pub below : Each (λ (m : ModuleText). m.name ≢ codes "top") modules

-- it ends a netlist after any modules of which it placed instances
abbrev pub BuiltEndNetlists : Type 0
BuiltEndNetlists = (by : Dependence) (o : Outside) (registers : List Wire) (first : Draft) (steps : List Step) (top : ModuleText) (modules : List ModuleText) → IsBuilt by o registers first steps
    → IsFinished (last_draft first steps) top → IsModule top → CanPrecede modules → Each (IsInstanceIn modules) (placed_by steps) → IsNetlist (modules ++ top ∷ [])
