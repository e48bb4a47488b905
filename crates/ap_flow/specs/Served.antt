-- What stages that were served can leave, and the instructions that they have.
use Rattle.std.specs.Prelude.{◌≡◌, ℕ, ◌+◌, ◌-◌, List, Some, length, slice_get}
use Rattle.std.specs.List.{AllByRecursion as Each}
use Rattle.ap_bits.specs.declared.card.Card.{Card}
use Rattle.ap_desc.specs.Clean.{FitsCards}
use Rattle.ap_desc.specs.declared.design.Design.{Design}
use Rattle.ap_desc.specs.declared.design.Node.{Node as DesignNode}
use Rattle.ap_merge.specs.declared.table.Choice.{Choice}
use Rattle.ap_net.specs.Draft.{Draft, Extends}
use Rattle.ap_net.specs.Modules.{ModuleText}
use Rattle.ap_ctl.specs.Nets.{AreDecoded}
use Rattle.ap_pipe.specs.declared.table.StageSlots.{StageSlots}
use Rattle.ap_pipe.specs.declared.table.SlotTable.{SlotTable}
use Rattle.ap_pipe.specs.Slots.{AreSlotsOf, AreStageSlots}
use Rattle.ap_stage.specs.declared.chain.Node.{Node}
use Rattle.ap_stage.specs.declared.node.Course.{Course}
use Rattle.ap_stage.specs.declared.source.Ground.{Ground}
use Rattle.ap_outcome.specs.Outcomes.{CanLeave}
use Rattle.ap_whole.specs.Handed.{AreInstrCourses}
use Rattle.ap_stages.specs.Staged.{IsStaged}
use Rattle.ap_stages.specs.declared.begin.SharedNets.{SharedNets}
use Rattle.ap_stages.specs.declared.begin.StageNets.{StageNets}
use Rattle.ap_stages.specs.declared.nodes.Supplied.{Supplied}
use Rattle.ap_stages.specs.declared.stage.ServedStage.{ServedStage}
use Rattle.ap_flow.specs.Left.{CanLeaveOn}

-- In each later draft a stage that was served has the instructions of the design, where its conditions tell which of them its word matches.
abbrev pub StagesHaveInstrs : Type 0
StagesHaveInstrs = (design : Design) (stage : ℕ) (table : StageSlots) (choices : List Choice) (supplies : List Supplied) (order : List DesignNode) (modules : List ModuleText) (shared : SharedNets) (own : StageNets) (old new d : Draft) (ground : Ground) (courses : List Course)
    (nodes : List Node) → IsStaged design stage table choices supplies order modules shared own old new ground courses nodes → Extends new d → AreDecoded design d ground.word own.conds → AreInstrCourses design d ground courses

-- It has the net of each local that is live into the stage after it, where there is a condition for each instruction.
abbrev pub StagesCanLeave : Type 0
StagesCanLeave = (design : Design) (cards : List Card) (stage : ℕ) (table : StageSlots) (choices : List Choice) (supplies : List Supplied) (order : List DesignNode) (modules : List ModuleText) (shared : SharedNets) (own : StageNets) (old new : Draft) (ground : Ground)
    (courses : List Course) (nodes : List Node) (after : StageSlots) → FitsCards design cards → IsStaged design stage table choices supplies order modules shared own old new ground courses nodes → length own.conds ≡ length design.instrs → AreStageSlots design (stage + 1) after
    → Each (CanLeave courses) after.homes

-- The stage at a place, the first of which is that of stage 1, was served before this draft, where its conditions tell which instructions its
-- word matches.
pub record WasServed (design : Design) (d : Draft) (place : ℕ) (s : ServedStage) : Type 0 where
  pub table : StageSlots
  pub choices : List Choice
  pub supplies : List Supplied
  pub order : List DesignNode
  pub modules : List ModuleText
  pub shared : SharedNets
  pub own : StageNets
  pub old : Draft
  pub new : Draft
  pub staged : IsStaged design (place + 1) table choices supplies order modules shared own old new s.ground s.courses.items s.nodes.items
  pub later : Extends new d
  pub decoded : AreDecoded design d s.ground.word own.conds

-- Where all stages were, they can leave what the slots of the next ones take.
abbrev pub ServedCanLeave : Type 0
ServedCanLeave = (design : Design) (cards : List Card) (d : Draft) (table : SlotTable) (stages : List ServedStage) → FitsCards design cards → AreSlotsOf design table → length stages ≡ design.stages - 1
    → ((place : ℕ) (s : ServedStage) → slice_get stages place ≡ Some s → WasServed design d place s) → CanLeaveOn design d table.stages stages
