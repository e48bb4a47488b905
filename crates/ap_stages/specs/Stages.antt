-- The data of all stages of a design, made one after another.
use Rattle.std.specs.Prelude.{◌≡◌, ℕ, ◌+◌, List, Some, flat_map, slice_get}
use Rattle.std.specs.List.{AllByRecursion as Each}
use Rattle.ap_desc.specs.declared.design.Design.{Design}
use Rattle.ap_desc.specs.declared.design.Node.{Node as DesignNode}
use Rattle.ap_merge.specs.declared.table.Choice.{Choice}
use Rattle.ap_net.specs.declared.cell.Wire.{Wire}
use Rattle.ap_net.specs.Draft.{Adds, Draft}
use Rattle.ap_net.specs.Modules.{ModuleText}
use Rattle.ap_net.specs.Ready.{Dependence, ReadyAfter}
use Rattle.ap_pipe.specs.declared.table.StageSlots.{StageSlots}
use Rattle.ap_stage.specs.declared.chain.Node.{Node}
use Rattle.ap_stage.specs.Courses.{courses_numbers}
use Rattle.ap_stage.specs.Reads.{AreReadyAfter, CameReady}
use Rattle.ap_stage.specs.Served.{IsReadyNode, ServesNodes, stage_wires}
use Rattle.ap_stage.specs.Trees.{IsShallow}
use Rattle.ap_stages.specs.Begun.{AreStageNets, base_numbers}
use Rattle.ap_stages.specs.Staged.{IsStaged, stage_numbers}
use Rattle.ap_stages.specs.declared.begin.SharedNets.{SharedNets}
use Rattle.ap_stages.specs.declared.begin.StageNets.{StageNets}
use Rattle.ap_stages.specs.declared.nodes.Supplied.{Supplied}
use Rattle.ap_stages.specs.declared.stage.ServedStage.{ServedStage}

-- each stage has its nets, by its place in the table of slots
abbrev pub AreAllNets : Design → Draft → List StageSlots → List StageNets → Type 0
AreAllNets design d slots owns = (place : ℕ) (table : StageSlots) (own : StageNets) → slice_get slots place ≡ Some table → slice_get owns place ≡ Some own → AreStageNets design d.nets table own

-- before none of the nets on which its data stand is a `? :`
abbrev pub IsLowStage : Draft → SharedNets → StageNets → Type 0
IsLowStage d shared own = Each (IsShallow d 0) (base_numbers shared own)

-- the ports of all stages, in their order
abbrev pub all_nodes : List ServedStage → List Node
all_nodes stages = flat_map (λ (s : ServedStage). s.nodes.items) stages

-- The stage was made between two drafts, before and after which others were made. It has the slots, the order of nodes and the nets of its
-- place; the first place is that of stage 1.
pub record IsMadeAmong (design : Design) (slots : List StageSlots) (choices : List Choice) (supplies : List Supplied) (orders : List (List DesignNode)) (modules : List ModuleText) (shared : SharedNets) (owns : List StageNets) (old new : Draft) (place : ℕ) (s : ServedStage) : Type 0 where
  pub table : StageSlots
  pub has_table : slice_get slots place ≡ Some table
  pub order : List DesignNode
  pub has_order : slice_get orders place ≡ Some order
  pub own : StageNets
  pub has_own : slice_get owns place ≡ Some own
  pub before : Draft
  pub after : Draft
  pub starts : Adds old before
  pub staged : IsStaged design (place + 1) table choices supplies order modules shared own before after s.ground s.courses.items s.nodes.items
  pub ends : Adds after new

-- what came, the wires that were driven, and all nets of the instructions are ready once these are
pub record AreAllReady (by : Dependence) (base : List ℕ) (old new : Draft) (stages : List ServedStage) : Type 0 where
  pub came : CameReady by base old new
  pub wires : Each (λ (w : Wire). ReadyAfter by new base w.number) (stage_wires (all_nodes stages))
  pub rows : Each (λ (s : ServedStage). AreReadyAfter by new base (courses_numbers s.ground s.courses.items)) stages

-- So they are where the nets on which the data of each stage stand are ready, and so is what the ports give.
abbrev pub FollowAll : SharedNets → List StageNets → Draft → Draft → List ServedStage → Type 0
FollowAll shared owns old new stages = (by : Dependence) (base : List ℕ) → Each (λ (own : StageNets). AreReadyAfter by old base (stage_numbers shared own)) owns → Each (IsReadyNode by old base) (all_nodes stages)
    → AreAllReady by base old new stages

-- The stages were made one after another, from the first on: an instance was placed for each unit of one cycle, the wires of the other ports
-- were driven, and nothing else changed.
pub record AreStaged (design : Design) (slots : List StageSlots) (choices : List Choice) (supplies : List Supplied) (orders : List (List DesignNode)) (modules : List ModuleText) (shared : SharedNets) (owns : List StageNets) (old new : Draft) (stages : List ServedStage) : Type 0 where
  pub each : (place : ℕ) (s : ServedStage) → slice_get stages place ≡ Some s → IsMadeAmong design slots choices supplies orders modules shared owns old new place s
  pub serves : ServesNodes (all_nodes stages) old new
  pub follows : FollowAll shared owns old new stages
