-- A processor's top that was built in steps over the modules of its units and files: it ends their netlist, which runs as the machine.
use Rattle.std.specs.Prelude.{List, [], ◌∷◌, ◌++◌}
use Rattle.std.specs.List.{AllByRecursion as Each}
use Rattle.ap_bits.specs.declared.card.Card.{Card}
use Rattle.ap_desc.specs.Clean.{FitsCards}
use Rattle.ap_desc.specs.declared.design.Design.{Design}
use Rattle.ap_net.specs.declared.cell.Wire.{Wire}
use Rattle.ap_net.specs.Draft.{Draft}
use Rattle.ap_net.specs.Finished.{IsFinished}
use Rattle.ap_net.specs.Flat.{opened_over}
use Rattle.ap_net.specs.Modules.{IsInstanceIn, IsModule, IsNetlist, ModuleText}
use Rattle.ap_steps.specs.Built.{IsBuilt}
use Rattle.ap_steps.specs.Steps.{Step, last_draft, placed_by}
use Rattle.ap_signals.specs.DesignOutside.{outside_of}
use Rattle.ap_parts.specs.Known.{HasParts, Knows, dependence_of}
use Rattle.ap_whole.specs.Whole.{RunsAsMachine}
use Rattle.ap_built.specs.Top.{IsTopBuilt}

-- Built in steps from its ports on and finished, with instances of these modules, which have all that a top needs, whatever their cards are.
pub record IsTopMade (knows : Knows) (cards : List Card) (design : Design) (modules : List ModuleText) (registers : List Wire) (first : Draft) (steps : List Step) (top : ModuleText) : Type 0 where
  pub parts : HasParts knows cards design modules
  pub built : IsBuilt (dependence_of knows.names design) (outside_of design) registers first steps
  pub instances : Each (IsInstanceIn modules) (placed_by steps)
  pub finished : IsFinished (last_draft first steps) top
  pub kept : IsModule top
  pub pieces : IsTopBuilt design cards (last_draft first steps) modules

-- It ends a netlist, which has a run for every image, trace and count; and each run is the machine.
pub record EndsAndRuns (cards : List Card) (design : Design) (modules : List ModuleText) (top : ModuleText) : Type 0 where
  pub netlist : IsNetlist (modules ++ top ∷ [])
  pub runs : RunsAsMachine design cards (opened_over modules top)

abbrev pub MadeTopsRun : Type 0
MadeTopsRun = (knows : Knows) (cards : List Card) (design : Design) (modules : List ModuleText) (registers : List Wire) (first : Draft) (steps : List Step) (top : ModuleText) → FitsCards design cards
    → IsTopMade knows cards design modules registers first steps top → EndsAndRuns cards design modules top
