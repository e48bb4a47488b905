-- The homes of live locals in the slots of a stage.
use Rattle.std.specs.Prelude.{◌≡◌, ℕ, ◌+◌, ◌-◌, ◌≤◌, ◌<◌, List, length, flat_map, Any, Contains, Some, slice_get, slice_index}
use Rattle.ap_desc.specs.declared.design.Design.{Design}
use Rattle.ap_desc.specs.declared.design.Instr.{Instr}
use Rattle.ap_pipe.specs.Live.{IsLive, live_locals}
use Rattle.ap_pipe.specs.Widths.{slot_widths}
use Rattle.ap_pipe.specs.declared.table.Home.{Home}
use Rattle.ap_pipe.specs.declared.table.SlotTable.{SlotTable}
use Rattle.ap_pipe.specs.declared.table.StageSlots.{StageSlots}

-- the slot is there and as wide as the local at least
pub record HoldsLocal (design : Design) (widths : List ℕ) (home : Home) : Type 0 where
  pub there : home.slot < length widths
  pub wide : (instr : Instr) → slice_get design.instrs home.instr ≡ Some instr → slice_index instr.locals home.local ≤ slice_index widths home.slot

-- each local that is live into the stage has a home, and there are no more homes than these; a slot that holds it, and
-- that no other local of its instruction has
pub record AreHomes (design : Design) (stage : ℕ) (widths : List ℕ) (homes : List Home) : Type 0 where
  pub live : (home : Home) → Contains homes home → IsLive design stage home.instr home.local
  pub all : (number i : ℕ) → IsLive design stage number i → Any (λ (home : Home). (home.instr ≡ number) × (home.local ≡ i)) homes
  pub count : length homes ≡ length (flat_map (live_locals design stage) design.instrs)
  pub apart : (one other : Home) → Contains homes one → Contains homes other → one.instr ≡ other.instr → one.slot ≡ other.slot → one.local ≡ other.local
  pub hold : (home : Home) → Contains homes home → HoldsLocal design widths home

-- the slots of a stage: as wide as they have to be and no wider, with a home for each live local
pub record AreStageSlots (design : Design) (stage : ℕ) (slots : StageSlots) : Type 0 where
  pub widths : slots.widths ≡ slot_widths design stage
  pub homes : AreHomes design stage slots.widths slots.homes

-- the slots of each stage from 1 on
pub record AreSlotsOf (design : Design) (table : SlotTable) : Type 0 where
  pub count : length table.stages ≡ design.stages - 1
  pub each : (place : ℕ) (slots : StageSlots) → slice_get table.stages place ≡ Some slots → AreStageSlots design (place + 1) slots
