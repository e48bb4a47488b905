-- The stages of a finished draft of a top, from the stages that were made.
use Rattle.std.specs.Prelude.{◌≡◌, ℕ, ◌-◌, ◌<◌, ◌≤◌, List, Some, slice_get}
use Rattle.ap_bits.specs.declared.card.Card.{Card}
use Rattle.ap_desc.specs.Clean.{FitsCards}
use Rattle.ap_desc.specs.declared.design.Design.{Design}
use Rattle.ap_desc.specs.declared.design.Node.{Node as DesignNode}
use Rattle.ap_merge.specs.declared.table.Choice.{Choice}
use Rattle.ap_net.specs.declared.cell.Wire.{Wire}
use Rattle.ap_net.specs.Draft.{Draft, Extends}
use Rattle.ap_net.specs.Modules.{ModuleText}
use Rattle.ap_pipe.specs.declared.table.SlotTable.{SlotTable}
use Rattle.ap_ctl.specs.declared.nets.ControlGiven.{ControlGiven}
use Rattle.ap_ctl.specs.declared.nets.ControlNets.{ControlNets}
use Rattle.ap_flight.specs.declared.stage.Coming.{Coming}
use Rattle.ap_flight.specs.declared.stage.StageRegisters.{StageRegisters}
use Rattle.ap_stage.specs.declared.chain.Node.{Node}
use Rattle.ap_stage.specs.declared.chain.Node.TheVariants as node
use Rattle.ap_stage.specs.declared.node.Course.{Course}
use Rattle.ap_stage.specs.declared.serve.SlowUnit.{SlowUnit}
use Rattle.ap_stage.specs.declared.source.Ground.{Ground}
use Rattle.ap_stages.specs.Staged.{IsStaged}
use Rattle.ap_stages.specs.declared.begin.SharedNets.{SharedNets}
use Rattle.ap_stages.specs.declared.begin.StageNets.{StageNets}
use Rattle.ap_stages.specs.declared.nodes.Supplied.{Supplied}
use Rattle.ap_border.specs.Files.{HasFiles}
use Rattle.ap_data.specs.Stage.{IsStageOf}
use Rattle.ap_bank.specs.FileBorder.{BanksFiles}
use Rattle.ap_front.specs.declared.fetch.Fetching.{Fetching}
use Rattle.ap_front.specs.declared.registers.Registers.{Registers}
use Rattle.ap_front.specs.Driven.{at_stage, no_registers, no_slots}
use Rattle.ap_parts.specs.Known.{HasParts, Knows}
use Rattle.ap_built.specs.Front.{IsFrontBuilt, kept_in}
use Rattle.ap_built.specs.Top.{JoinsBanks}
use Rattle.ap_supply.specs.Supplies.{AreSuppliesOf, Placed}
use Rattle.ap_staged.specs.Grounds.{AreSharedNamed}
use Rattle.ap_staged.specs.Ports.{IsPlacedIn, JoinsPlaced}

-- a stage's nets are its registers, and the conditions that control has of its word
pub record IsOver (registers : StageRegisters) (decoded : List (List Wire)) (stage : ℕ) (own : StageNets) : Type 0 where
  pub word_is : own.word ≡ registers.word
  pub place_is : own.place ≡ registers.place
  pub slots_are : own.slots ≡ registers.slots
  pub conds_are : slice_get decoded (stage - 1) ≡ Some own.conds

-- A stage was made over its registers and control's conditions, with the slots of the table, of what was placed for the design's nodes, before
-- the draft came to this one.
pub record MakesStage (design : Design) (d : Draft) (table : SlotTable) (r : Registers) (nets : ControlNets) (p : Placed) (stage : ℕ) (ground : Ground) (courses : List Course) (nodes : List Node) : Type 0 where
  pub choices : List Choice
  pub supplies : List Supplied
  pub order : List DesignNode
  pub shared : SharedNets
  pub own : StageNets
  pub old : Draft
  pub new : Draft
  pub staged : IsStaged design stage (at_stage no_slots table.stages stage) choices supplies order p.modules shared own old new ground courses nodes
  pub supplied : AreSuppliesOf design p supplies
  pub named : AreSharedNamed design d shared
  pub over : IsOver (at_stage no_registers r.stages stage) nets.decoded stage own
  pub later : Extends new d

-- Over the front of the draft, and over any modules that have the design's parts, it is a stage of the design.
abbrev pub StagedAreOf : Type 0
StagedAreOf = (knows : Knows) (cards : List Card) (design : Design) (d : Draft) (modules : List ModuleText) (table : SlotTable) (r : Registers) (comings : List Coming) (f : Fetching) (given : ControlGiven) (nets : ControlNets)
    (banks : BanksFiles design d modules) (p : Placed) → FitsCards design cards → HasParts knows cards design modules → IsFrontBuilt design d modules table r comings f given nets → IsPlacedIn knows design d modules banks p
    → (files : HasFiles design d modules) → JoinsBanks design d modules banks files → (stage : ℕ) (ground : Ground) (courses : List Course) (nodes : List Node) → 1 ≤ stage → stage ≤ design.stages - 1
    → MakesStage design d table r nets p stage ground courses nodes → IsStageOf design cards d modules files p.modules (kept_in design table.stages) stage ground courses nodes

-- Its lines stand on the stage's registers, and each of its ports of several cycles has the wires of a unit that was placed.
pub record StandsOver (r : Registers) (p : Placed) (stage : ℕ) (ground : Ground) (nodes : List Node) : Type 0 where
  pub word_is : ground.word ≡ (at_stage no_registers r.stages stage).word
  pub place_is : ground.place ≡ (at_stage no_registers r.stages stage).place
  pub joins : (place : ℕ) (x : SlowUnit) → slice_get nodes place ≡ Some (node.Slow x) → x.port < 32 → JoinsPlaced p x

abbrev pub StagedStandOver : Type 0
StagedStandOver = (design : Design) (d : Draft) (table : SlotTable) (r : Registers) (nets : ControlNets) (p : Placed) (stage : ℕ) (ground : Ground) (courses : List Course) (nodes : List Node)
    → MakesStage design d table r nets p stage ground courses nodes → StandsOver r p stage ground nodes
