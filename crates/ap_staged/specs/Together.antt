-- All stages of a top, as they were made one after another.
use Rattle.std.specs.Prelude.{◌≡◌, ℕ, ◌-◌, ◌≤◌, List, Some, length, slice_get}
use Rattle.ap_desc.specs.declared.design.Design.{Design}
use Rattle.ap_desc.specs.declared.design.Node.{Node as DesignNode}
use Rattle.ap_merge.specs.declared.table.Choice.{Choice}
use Rattle.ap_net.specs.Draft.{Draft, Extends}
use Rattle.ap_pipe.specs.declared.table.SlotTable.{SlotTable}
use Rattle.ap_ctl.specs.declared.nets.ControlNets.{ControlNets}
use Rattle.ap_front.specs.declared.registers.Registers.{Registers}
use Rattle.ap_stages.specs.Own.{AreNetsOf}
use Rattle.ap_stages.specs.Stages.{AreStaged}
use Rattle.ap_stages.specs.declared.begin.SharedNets.{SharedNets}
use Rattle.ap_stages.specs.declared.begin.StageNets.{StageNets}
use Rattle.ap_stages.specs.declared.nodes.Supplied.{Supplied}
use Rattle.ap_stages.specs.declared.stage.ServedStage.{ServedStage}
use Rattle.ap_supply.specs.Supplies.{AreSuppliesOf, Placed}
use Rattle.ap_staged.specs.Grounds.{AreSharedNamed}
use Rattle.ap_staged.specs.Stages.{MakesStage}

-- The stages were made over the front's registers and control's conditions, with the slots of the table, of what was placed for the design's
-- nodes, before the draft came to this one.
pub record MakesStages (design : Design) (d : Draft) (table : SlotTable) (r : Registers) (nets : ControlNets) (p : Placed) (stages : List ServedStage) : Type 0 where
  pub choices : List Choice
  pub supplies : List Supplied
  pub orders : List (List DesignNode)
  pub shared : SharedNets
  pub owns : List StageNets
  pub old : Draft
  pub new : Draft
  pub staged : AreStaged design table.stages choices supplies orders p.modules shared owns old new stages
  pub supplied : AreSuppliesOf design p supplies
  pub named : AreSharedNamed design d shared
  pub over : AreNetsOf r.stages nets.decoded owns
  pub decodes : length nets.decoded ≡ length r.stages
  pub later : Extends new d

-- So was each of them.
abbrev pub EachWasMade : Type 0
EachWasMade = (design : Design) (d : Draft) (table : SlotTable) (r : Registers) (nets : ControlNets) (p : Placed) (stages : List ServedStage) → MakesStages design d table r nets p stages
    → (stage : ℕ) (s : ServedStage) → 1 ≤ stage → slice_get stages (stage - 1) ≡ Some s → MakesStage design d table r nets p stage s.ground s.courses.items s.nodes.items
