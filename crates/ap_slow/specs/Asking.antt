-- Which words ask a unit in a stage, by the conditions of the stage's instructions.
use Rattle.std.specs.Prelude.{◌≡◌, ℕ, ◌-◌, ◌<◌, ◌≤◌, ◌==◌, ◌&&◌, Bool, false, true, List, [], ◌∷◌, filter, map, slice_get, Some, zip}
use Rattle.std.specs.List.{list_any}
use Rattle.ap_desc.specs.Clean.{IsClean}
use Rattle.ap_desc.specs.declared.design.Design.{Design}
use Rattle.ap_desc.specs.declared.design.Instr.{Instr}
use Rattle.ap_desc.specs.declared.design.Micro.{Micro}
use Rattle.ap_model.specs.UnitUse.{asks, is_use_of, latency_of}
use Rattle.ap_net.specs.declared.cell.Wire.{Wire}
use Rattle.ap_net.specs.Cells.{IsNet}
use Rattle.ap_net.specs.Draft.{Draft}
use Rattle.ap_ctl.specs.declared.nets.ControlGiven.{ControlGiven}
use Rattle.ap_ctl.specs.declared.nets.ControlNets.{ControlNets}
use Rattle.ap_ctl.specs.Building.{Tells, is_on}
use Rattle.ap_ctl.specs.Nets.{AreDecoded, Shows}

-- a line of the instruction computes on the unit in the stage
abbrev pub uses_unit : ℕ → ℕ → Instr → Bool
uses_unit stage unit instr = list_any (λ (m : Micro). (m.stage == stage) && is_use_of unit m.act) instr.micros

-- of conditions of these instructions, those of the instructions that use the unit
abbrev pub is_user : ℕ → ℕ → Instr × Wire → Bool
is_user stage unit p = uses_unit stage unit p.0

abbrev pub condition_of : Instr × Wire → Wire
condition_of p = p.1

abbrev pub user_conditions : ℕ → ℕ → List Instr → List Wire → List Wire
user_conditions stage unit instrs conditions = map condition_of (filter (is_user stage unit) (zip instrs conditions))

-- the net, where it is wanted
abbrev pub if_wanted : Bool → Wire → List Wire
if_wanted true w = w ∷ []
if_wanted false w = []

-- A stage's word, its valid bit, and the conditions of its instructions, as control is given and makes them.
pub record IsStageOf (design : Design) (given : ControlGiven) (d : Draft) (nets : ControlNets) (stage : ℕ) (word valid : Wire) (conditions : List Wire) : Type 0 where
  pub low : 1 ≤ stage
  pub word_at : slice_get given.words (stage - 1) ≡ Some word
  pub valid_at : slice_get nets.valid (stage - 1) ≡ Some valid
  pub net : IsNet d.nets word
  pub wide : word.width ≡ design.word
  pub decoded : AreDecoded design d word conditions

-- Where a net says whether the stage has a word that one of the unit's users matches, it shows whether the stage's word asks the unit.
abbrev pub AskingIsShown : Type 0
AskingIsShown = (design : Design) (given : ControlGiven) (d : Draft) (nets : ControlNets) (stage unit : ℕ) (word valid w : Wire) (conditions : List Wire) → IsClean design → 1 < latency_of design unit
    → IsStageOf design given d nets stage word valid conditions → Tells d (λ r. is_on r valid && list_any (is_on r) (user_conditions stage unit design.instrs conditions)) w
    → Shows design given nets.valid d (λ look. look.valid stage && asks design stage (look.word stage) unit) w
