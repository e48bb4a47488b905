-- Stages that were served can act.
use Rattle.std.specs.Prelude.{◌≡◌, ℕ, List, length}
use Rattle.ap_bits.specs.declared.card.Card.{Card}
use Rattle.ap_desc.specs.Clean.{FitsCards}
use Rattle.ap_desc.specs.declared.design.Design.{Design}
use Rattle.ap_desc.specs.declared.design.Node.{Node as DesignNode}
use Rattle.ap_merge.specs.declared.table.Choice.{Choice}
use Rattle.ap_net.specs.Draft.{Adds, Draft}
use Rattle.ap_net.specs.Modules.{ModuleText}
use Rattle.ap_pipe.specs.declared.table.StageSlots.{StageSlots}
use Rattle.ap_stage.specs.Sources.{IsGround}
use Rattle.ap_stages.specs.Staged.{IsStaged}
use Rattle.ap_stages.specs.declared.begin.SharedNets.{SharedNets}
use Rattle.ap_stages.specs.declared.begin.StageNets.{StageNets}
use Rattle.ap_stages.specs.declared.nodes.Supplied.{Supplied}
use Rattle.ap_stages.specs.declared.stage.ServedStage.{ServedStage}
use Rattle.ap_act.specs.Acting.{StageCanAct}

-- In each draft to which more was added all that the lines of such a stage write or transfer by has nets, where there is a condition for each
-- instruction and the stage's own nets are there.
abbrev pub StagesCanAct : Type 0
StagesCanAct = (design : Design) (cards : List Card) (stage : ℕ) (table : StageSlots) (choices : List Choice) (supplies : List Supplied) (order : List DesignNode) (modules : List ModuleText) (shared : SharedNets) (own : StageNets) (old new d : Draft) (s : ServedStage)
    → FitsCards design cards → IsStaged design stage table choices supplies order modules shared own old new s.ground s.courses.items s.nodes.items → length own.conds ≡ length design.instrs → Adds new d → IsGround d.nets s.ground → StageCanAct design d stage s
