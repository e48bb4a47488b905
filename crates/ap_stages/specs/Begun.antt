-- The nets on which a stage's instructions stand, and these instructions at their beginning.
use Rattle.std.specs.Prelude.{◌≡◌, ℕ, List, ◌∷◌, [], ◌++◌, map}
use Rattle.std.specs.List.{AllByRecursion as Each}
use Rattle.ap_desc.specs.declared.design.Design.{Design}
use Rattle.ap_desc.specs.declared.design.InPort.{InPort as Input}
use Rattle.ap_desc.specs.declared.design.Reg.{Reg}
use Rattle.ap_net.specs.declared.cell.Wire.{Wire}
use Rattle.ap_net.specs.declared.net.ModuleNet.{ModuleNet}
use Rattle.ap_net.specs.Cells.{IsNet}
use Rattle.ap_net.specs.Draft.{Draft}
use Rattle.ap_net.specs.Ready.{numbers}
use Rattle.ap_pipe.specs.declared.table.StageSlots.{StageSlots}
use Rattle.ap_stage.specs.declared.node.Course.{Course}
use Rattle.ap_stage.specs.declared.source.Ground.{Ground}
use Rattle.ap_stage.specs.Sources.{IsGround}
use Rattle.ap_stage.specs.Wiring.{IsWiring}
use Rattle.ap_course.specs.Homes.{AreSlots}
use Rattle.ap_course.specs.Instrs.{IsGroundOf}
use Rattle.ap_course.specs.Starts.{AreConds, AreStarted}
use Rattle.ap_stages.specs.Links.{IsLinkOf}
use Rattle.ap_stages.specs.declared.begin.SharedNets.{SharedNets}
use Rattle.ap_stages.specs.declared.begin.StageNets.{StageNets}

-- the nets are there, with these widths
pub record AreWide (nets : List ModuleNet) (widths : List ℕ) (wires : List Wire) : Type 0 where
  pub nets_are : Each (IsNet nets) wires
  pub wide : map (λ (w : Wire). w.width) wires ≡ widths

-- the registers and the input ports of the design are there
pub record AreShared (design : Design) (nets : List ModuleNet) (shared : SharedNets) : Type 0 where
  pub regs : AreWide nets (map (λ (r : Reg). r.width) design.regs) shared.regs
  pub inputs : AreWide nets (map (λ (p : Input). p.width) design.inputs) shared.inputs

-- so are a stage's word, the word's address, the condition of each instruction, and the slots
pub record AreStageNets (design : Design) (nets : List ModuleNet) (table : StageSlots) (own : StageNets) : Type 0 where
  pub word : IsNet nets own.word
  pub word_bits : own.word.width ≡ design.word
  pub place : IsNet nets own.place
  pub place_bits : own.place.width ≡ design.address
  pub conds : AreConds design nets own.conds
  pub slots : AreSlots nets table.widths own.slots

-- the numbers of the nets on which the data of a stage stand
abbrev pub base_numbers : SharedNets → StageNets → List ℕ
base_numbers shared own = own.word.number ∷ own.place.number ∷ (numbers shared.regs ++ (numbers shared.inputs ++ numbers own.slots))

-- the nets of the lines are those of the stage, and the address after the slots where a line names it
pub record IsGroundFor (shared : SharedNets) (own : StageNets) (ground : Ground) : Type 0 where
  pub word : ground.word ≡ own.word
  pub place : ground.place ≡ own.place
  pub regs : ground.regs ≡ shared.regs
  pub inputs : ground.inputs ≡ shared.inputs

-- The instructions of the stage have begun, over its nets. Only the address after the slots came before.
pub record IsBegun (design : Design) (stage : ℕ) (table : StageSlots) (shared : SharedNets) (own : StageNets) (old new : Draft) (ground : Ground) (courses : List Course) : Type 0 where
  pub grounded : IsGroundFor shared own ground
  pub of : IsGroundOf design ground
  pub linked : Draft
  pub link : IsLinkOf design stage linked own.place ground.link
  pub wiring : IsWiring (own.place.number ∷ []) old linked ground.link
  pub there : IsGround linked.nets ground
  pub started : AreStarted design stage ground table.homes own.slots own.conds linked new courses
