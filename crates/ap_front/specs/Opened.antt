-- The pc and the registers of the stages, declared.
use Rattle.std.specs.Prelude.{◌≡◌, ℕ, ◌+◌, List, [], ◌∷◌, flat_map, map}
use Rattle.std.specs.List.{AllByRecursion as Each}
use Rattle.ap_desc.specs.declared.design.Design.{Design}
use Rattle.ap_net.specs.declared.cell.Wire.{Wire}
use Rattle.ap_net.specs.Draft.{Draft, Extends}
use Rattle.ap_net.specs.Ready.{numbers}
use Rattle.ap_net.specs.Wiring.{NoneTwice}
use Rattle.ap_pipe.specs.declared.table.StageSlots.{StageSlots}
use Rattle.ap_signals.specs.NetRuns.{pc_name, place_name, slot_name, word_name}
use Rattle.ap_ctl.specs.Lists.{EachFrom}
use Rattle.ap_flight.specs.declared.plan.Planned.{Planned}
use Rattle.ap_flight.specs.declared.stage.StageRegisters.{StageRegisters}
use Rattle.ap_flight.specs.Planned.{stages_plan}
use Rattle.ap_flight.specs.Stages.{IsOpen, stage_wires}
use Rattle.ap_border.specs.Named.{IsZeroNamed}
use Rattle.ap_front.specs.declared.registers.Registers.{Registers}

-- the pc, and then the registers of the stages from 1 on
abbrev pub front_plan : Design → List StageSlots → List Planned
front_plan design stages = record { name = pc_name; width = design.address } ∷ stages_plan design 1 stages

abbrev pub front_wires : Registers → List Wire
front_wires r = r.pc ∷ flat_map stage_wires r.stages

abbrev pub wire_width : Wire → ℕ
wire_width w = w.width

-- The registers of a stage by their names, each 0 after the reset edge, with their bits.
pub record NamesStage (design : Design) (d : Draft) (stage : ℕ) (widths : List ℕ) (r : StageRegisters) : Type 0 where
  pub word : IsZeroNamed d (word_name stage) r.word
  pub word_wide : r.word.width ≡ design.word
  pub place : IsZeroNamed d (place_name stage) r.place
  pub place_wide : r.place.width ≡ design.address
  pub slots : EachFrom (λ slot w. IsZeroNamed d (slot_name stage slot) w) 0 r.slots
  pub slots_wide : map wire_width r.slots ≡ widths

-- those of the stages from one on, whose slots are these
abbrev pub NamesStages : Design → Draft → ℕ → List StageSlots → List StageRegisters → Type 0
NamesStages design d stage [] [] = Unit {0}
NamesStages design d stage [] (r ∷ registers) = ⊥
NamesStages design d stage (s ∷ stages) [] = ⊥
NamesStages design d stage (s ∷ stages) (r ∷ registers) = NamesStage design d stage s.widths r × NamesStages design d (stage + 1) stages registers

-- The pc and the registers of the stages by their names.
pub record NamesFront (design : Design) (d : Draft) (stages : List StageSlots) (r : Registers) : Type 0 where
  pub pc : IsZeroNamed d pc_name r.pc
  pub pc_wide : r.pc.width ≡ design.address
  pub each : NamesStages design d 1 stages r.stages

-- They are there, no two are one, and none takes anything yet.
pub record AreOpen (d : Draft) (wires : List Wire) : Type 0 where
  pub each : Each (IsOpen d) wires
  pub apart : NoneTwice (numbers wires)

-- names go on where the draft grows
abbrev pub NamesGoOn : Type 0
NamesGoOn = (design : Design) (a b : Draft) (stages : List StageSlots) (r : Registers) → Extends a b → NamesFront design a stages r → NamesFront design b stages r
