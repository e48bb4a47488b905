-- The nets of each stage, from the registers of the stages and what control decodes.
use Rattle.std.specs.Prelude.{◌≡◌, ℕ, ◌-◌, List, Some, length, map, slice_get}
use Rattle.std.specs.List.{AllByRecursion as Each}
use Rattle.ap_desc.specs.declared.design.Design.{Design}
use Rattle.ap_net.specs.declared.cell.Wire.{Wire}
use Rattle.ap_net.specs.declared.net.ModuleNet.{ModuleNet}
use Rattle.ap_net.specs.Cells.{IsNet}
use Rattle.ap_net.specs.Draft.{Draft}
use Rattle.ap_net.specs.Wiring.{IsSource}
use Rattle.ap_pipe.specs.declared.table.StageSlots.{StageSlots}
use Rattle.ap_flight.specs.declared.stage.StageRegisters.{StageRegisters}
use Rattle.ap_flight.specs.Stages.{stage_wires}
use Rattle.ap_course.specs.Starts.{AreConds}
use Rattle.ap_stages.specs.Stages.{AreAllNets, IsLowStage}
use Rattle.ap_stages.specs.declared.begin.SharedNets.{SharedNets}
use Rattle.ap_stages.specs.declared.begin.StageNets.{StageNets}

-- the nets of a stage: its registers, and the conditions of its instructions
abbrev pub nets_of : StageRegisters → List Wire → StageNets
nets_of r conditions = record { word = r.word; place = r.place; conds = conditions; slots = r.slots }

-- so of the stage at each place
pub record AreNetsOf (registers : List StageRegisters) (decoded : List (List Wire)) (owns : List StageNets) : Type 0 where
  pub long : length owns ≡ length registers
  pub each : (place : ℕ) (r : StageRegisters) (conditions : List Wire) (own : StageNets) → slice_get registers place ≡ Some r → slice_get decoded place ≡ Some conditions → slice_get owns place ≡ Some own → own ≡ nets_of r conditions

-- the net is there, and is a register or an input
pub record IsSourceNet (d : Draft) (w : Wire) : Type 0 where
  pub net : IsNet d.nets w
  pub whole : ModuleNet
  pub at : slice_get d.nets w.number ≡ Some whole
  pub source : IsSource whole.role

-- the registers of a stage are there, with their bits
pub record AreRegistersOf (design : Design) (d : Draft) (table : StageSlots) (r : StageRegisters) : Type 0 where
  pub each : Each (IsSourceNet d) (stage_wires r)
  pub word_wide : r.word.width ≡ design.word
  pub place_wide : r.place.width ≡ design.address
  pub slots_wide : map (λ (w : Wire). w.width) r.slots ≡ table.widths

-- What is asked of the nets of all stages.
pub record AreReadable (design : Design) (d : Draft) (slots : List StageSlots) (shared : SharedNets) (owns : List StageNets) : Type 0 where
  pub many : length owns ≡ design.stages - 1
  pub nets : AreAllNets design d slots owns
  pub low : Each (IsLowStage d shared) owns

-- It holds where the registers of the stages and the conditions are there, and the nets that all stages read are registers and inputs.
abbrev pub OwnNetsAreReadable : Type 0
OwnNetsAreReadable = (design : Design) (d : Draft) (slots : List StageSlots) (shared : SharedNets) (registers : List StageRegisters) (decoded : List (List Wire)) (owns : List StageNets) → AreNetsOf registers decoded owns → length slots ≡ design.stages - 1 → length registers ≡ length slots → length decoded ≡ length slots
    → ((place : ℕ) (table : StageSlots) (r : StageRegisters) → slice_get slots place ≡ Some table → slice_get registers place ≡ Some r → AreRegistersOf design d table r)
    → ((place : ℕ) (conditions : List Wire) → slice_get decoded place ≡ Some conditions → AreConds design d.nets conditions) → Each (IsSourceNet d) shared.regs → Each (IsSourceNet d) shared.inputs → AreReadable design d slots shared owns
