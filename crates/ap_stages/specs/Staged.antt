-- A stage whose ports serve the instructions of a design.
use Rattle.std.specs.Prelude.{ℕ, ◌++◌, List}
use Rattle.std.specs.List.{AllByRecursion as Each}
use Rattle.ap_desc.specs.declared.design.Design.{Design}
use Rattle.ap_desc.specs.declared.design.Node.{Node as DesignNode}
use Rattle.ap_merge.specs.Choices.{AreChoices}
use Rattle.ap_merge.specs.declared.table.Choice.{Choice}
use Rattle.ap_net.specs.Draft.{Draft, Extends}
use Rattle.ap_net.specs.Modules.{ModuleText}
use Rattle.ap_net.specs.Ready.{Dependence, numbers}
use Rattle.ap_path.specs.Tables.{ArePathsOf}
use Rattle.ap_path.specs.declared.table.PathTable.{PathTable}
use Rattle.ap_pipe.specs.declared.table.StageSlots.{StageSlots}
use Rattle.ap_stage.specs.declared.chain.Node.{Node}
use Rattle.ap_stage.specs.declared.node.Course.{Course}
use Rattle.ap_stage.specs.declared.source.Ground.{Ground}
use Rattle.ap_stage.specs.Chained.{IsFull, IsServedNode, IsWhole, UsesOnly}
use Rattle.ap_stage.specs.Courses.{AreSame, IsCourse}
use Rattle.ap_stage.specs.Reads.{AreReadyAfter}
use Rattle.ap_stage.specs.Served.{AreServedReady, IsReadyNode, ServesNodes, stage_wires}
use Rattle.ap_stages.specs.Begun.{IsBegun, base_numbers}
use Rattle.ap_stages.specs.Supplies.{AreNodesFor}
use Rattle.ap_stages.specs.declared.begin.SharedNets.{SharedNets}
use Rattle.ap_stages.specs.declared.begin.StageNets.{StageNets}
use Rattle.ap_stages.specs.declared.nodes.Supplied.{Supplied}

-- the choices are those of the design's paths
pub record AreChoicesOf (design : Design) (choices : List Choice) : Type 0 where
  pub paths : PathTable
  pub of : ArePathsOf design paths
  pub are : AreChoices paths.uses choices

-- the ports of the stage that are made of its nodes serve its instructions, which are those of the beginning but for the nets of further
-- locals: each has all of its locals
pub record ServesAll (d : Draft) (modules : List ModuleText) (ground : Ground) (courses : List Course) (nodes : List Node) : Type 0 where
  pub are : Each (IsCourse d ground) courses
  pub whole : Each IsWhole courses
  pub full : Each IsFull courses
  pub only : Each (UsesOnly nodes) courses
  pub served : Each (IsServedNode d ground modules courses) nodes

-- all nets on which the data of a stage stand, with the conditions of its instructions
abbrev pub stage_numbers : SharedNets → StageNets → List ℕ
stage_numbers shared own = numbers own.conds ++ base_numbers shared own

-- Where these are ready once others are, and so is what the ports give, so is what came, and what was driven.
abbrev pub FollowsFrom : SharedNets → StageNets → Ground → List Node → Draft → Draft → List Course → Type 0
FollowsFrom shared own ground nodes old new courses = (by : Dependence) (base : List ℕ) → AreReadyAfter by old base (stage_numbers shared own) → Each (IsReadyNode by old base) nodes
    → AreServedReady by base ground old new (stage_wires nodes) courses

-- The stage is served: its instructions began, each using these ports alone, and the draft in which they began grew as the ports were
-- served. For each unit of one cycle an instance was placed, the wires of the other ports were driven, and nothing else changed.
pub record IsStaged (design : Design) (stage : ℕ) (table : StageSlots) (choices : List Choice) (supplies : List Supplied) (order : List DesignNode) (modules : List ModuleText) (shared : SharedNets) (own : StageNets) (old new : Draft) (ground : Ground)
    (courses : List Course) (nodes : List Node) : Type 0 where
  pub begun : Draft
  pub first : List Course
  pub begins : IsBegun design stage table shared own old begun ground first
  pub uses : Each (UsesOnly nodes) first
  pub grows : Extends begun new
  pub same : AreSame first courses
  pub ports : AreNodesFor design choices supplies order nodes
  pub all : ServesAll new modules ground courses nodes
  pub serves : ServesNodes nodes old new
  pub follows : FollowsFrom shared own ground nodes old new courses
