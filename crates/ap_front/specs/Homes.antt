-- The slot that keeps a local, by stage, instruction and local, where the stages have these slots.
use Rattle.std.specs.Prelude.{◌≡◌, ℕ, ◌+◌, ◌==◌, ◌&&◌, Bool, true, List, Some, Contains, find, slice_get}
use Rattle.std.specs.Option.{option_map_or}
use Rattle.ap_desc.specs.Clean.{IsClean}
use Rattle.ap_desc.specs.declared.design.Design.{Design}
use Rattle.ap_desc.specs.declared.design.Instr.{Instr}
use Rattle.ap_model.specs.FlightLocals.{is_live_in}
use Rattle.ap_net.specs.Draft.{Draft}
use Rattle.ap_pipe.specs.Slots.{AreSlotsOf}
use Rattle.ap_pipe.specs.declared.table.Home.{Home}
use Rattle.ap_pipe.specs.declared.table.SlotTable.{SlotTable}
use Rattle.ap_pipe.specs.declared.table.StageSlots.{StageSlots}
use Rattle.ap_signals.specs.NetRuns.{NetRun}
use Rattle.ap_flight.specs.declared.stage.Coming.{Coming}
use Rattle.ap_border.specs.Flights.{HomesWithin}
use Rattle.ap_front.specs.declared.registers.Registers.{Registers}
use Rattle.ap_front.specs.Driven.{GivesFlights, at_stage, no_slots}
use Rattle.ap_front.specs.Opened.{NamesFront}

-- the line of the instruction of this number, which is that of no other one
abbrev pub line_of : Design → ℕ → ℕ
line_of design number = option_map_or (λ (i : Instr). i.line) (slice_get design.instrs number) 0

abbrev pub is_home : Design → Instr → ℕ → Home → Bool
is_home design instr i home = (line_of design home.instr == instr.line) && (home.local == i)

-- the slot of the first home of the local
abbrev pub home_in : Design → List StageSlots → ℕ → Instr → ℕ → ℕ
home_in design stages stage instr i = option_map_or (λ (h : Home). h.slot) (find (is_home design instr i) (at_stage no_slots stages stage).homes) 0

-- the slot is that of a home of the local
pub record IsHomeOf (s : StageSlots) (number i slot : ℕ) : Type 0 where
  pub home : Home
  pub there : Contains s.homes home
  pub instr : home.instr ≡ number
  pub local : home.local ≡ i
  pub slot_is : home.slot ≡ slot

-- a live local has a home, and this is its slot
abbrev pub HomesAreSlots : Type 0
HomesAreSlots = (design : Design) (table : SlotTable) → IsClean design → AreSlotsOf design table → (place number i : ℕ) (s : StageSlots) (instr : Instr) → slice_get table.stages place ≡ Some s → slice_get design.instrs number ≡ Some instr
    → is_live_in design (place + 1) i instr ≡ true → IsHomeOf s number i (home_in design table.stages (place + 1) instr i)

-- so homes are slots of their stages
abbrev pub HomesAreWithin : Type 0
HomesAreWithin = (design : Design) (d : Draft) (table : SlotTable) (r : Registers) (comings : List Coming) → IsClean design → AreSlotsOf design table → NamesFront design d table.stages r → (gives : GivesFlights design d table.stages r comings)
    → (run : NetRun) → ((stage i : ℕ) (instr : Instr) → run.home stage instr i ≡ home_in design table.stages stage instr i) → HomesWithin design d gives.has run
