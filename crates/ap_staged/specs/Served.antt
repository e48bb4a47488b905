-- A stage that was made, in a draft that goes on from there.
use Rattle.std.specs.Prelude.{ℕ, List}
use Rattle.ap_desc.specs.declared.design.Design.{Design}
use Rattle.ap_desc.specs.declared.design.Node.{Node as DesignNode}
use Rattle.ap_merge.specs.declared.table.Choice.{Choice}
use Rattle.ap_net.specs.Draft.{Draft, Extends}
use Rattle.ap_net.specs.Modules.{ModuleText}
use Rattle.ap_pipe.specs.declared.table.StageSlots.{StageSlots}
use Rattle.ap_stage.specs.declared.chain.Node.{Node}
use Rattle.ap_stage.specs.declared.node.Course.{Course}
use Rattle.ap_stage.specs.declared.source.Ground.{Ground}
use Rattle.ap_stages.specs.Staged.{IsStaged}
use Rattle.ap_stages.specs.declared.begin.SharedNets.{SharedNets}
use Rattle.ap_stages.specs.declared.begin.StageNets.{StageNets}
use Rattle.ap_stages.specs.declared.nodes.Supplied.{Supplied}
use Rattle.ap_values.specs.Served.{IsServedStage}

-- Its instructions were started where it began, and its ports served them.
abbrev pub StagedAreServed : Type 0
StagedAreServed = (design : Design) (stage : ℕ) (table : StageSlots) (choices : List Choice) (supplies : List Supplied) (order : List DesignNode) (modules : List ModuleText) (shared : SharedNets) (own : StageNets) (old new d : Draft)
    (ground : Ground) (courses : List Course) (nodes : List Node) (h : IsStaged design stage table choices supplies order modules shared own old new ground courses nodes) → Extends new d
    → IsServedStage design stage ground table.homes own.slots own.conds (h.begins).linked h.begun new d modules h.first courses nodes
