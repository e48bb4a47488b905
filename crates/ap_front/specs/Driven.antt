-- The registers of all stages, and what they take.
use Rattle.std.specs.Prelude.{◌≡◌, ◌≢◌, ℕ, zero, suc, ◌-◌, ◌<◌, ◌≤◌, List, [], length, slice_get, Some, codes, unwrap_or, Contains}
use Rattle.std.specs.List.{AllByRecursion as Each}
use Rattle.ap_desc.specs.declared.design.Design.{Design}
use Rattle.ap_net.specs.declared.cell.Wire.{Wire}
use Rattle.ap_net.specs.Draft.{Draft, Extends, CanFresh, KeepsNew}
use Rattle.ap_net.specs.Late.{StayLate}
use Rattle.ap_net.specs.Modules.{ports_among}
use Rattle.ap_net.specs.Ready.{AreReady, Dependence, Ready, numbers}
use Rattle.ap_net.specs.Wiring.{NoneTwice, Unclocked}
use Rattle.ap_pipe.specs.declared.table.StageSlots.{StageSlots}
use Rattle.ap_signals.specs.NetSignals.{by_stage}
use Rattle.ap_ctl.specs.Lists.{EachFrom}
use Rattle.ap_flight.specs.declared.stage.Coming.{Coming}
use Rattle.ap_flight.specs.declared.stage.StageRegisters.{StageRegisters}
use Rattle.ap_flight.specs.Entries.{SlotTakes, left_to}
use Rattle.ap_flight.specs.Stages.{IsComing, IsOpen, PassesOn, TakesNet, coming_numbers, stage_wires}
use Rattle.ap_border.specs.Flights.{HasFlights}
use Rattle.ap_border.specs.Named.{IsNamed}
use Rattle.ap_front.specs.declared.registers.Registers.{Registers}
use Rattle.ap_front.specs.Opened.{NamesFront}

-- What stands at one place of the three lists: the registers of a stage, its slots, and what comes to it.
abbrev pub AtPlace : List StageRegisters → List StageSlots → List Coming → (StageRegisters → StageSlots → Coming → Type 0) → Type 0
AtPlace registers stages comings Fact = (place : ℕ) (r : StageRegisters) (s : StageSlots) (c : Coming) → slice_get registers place ≡ Some r → slice_get stages place ≡ Some s → slice_get comings place ≡ Some c → Fact r s c

-- the net is none of the registers of these stages
abbrev pub IsOther : List StageRegisters → ℕ → Type 0
IsOther registers n = (place : ℕ) (r : StageRegisters) → slice_get registers place ≡ Some r → Each (λ m. m ≢ n) (numbers (stage_wires r))

-- The registers of the stages are there and take nothing yet, no two are one, and to each stage comes what it needs.
pub record CanDrive (d : Draft) (registers : List StageRegisters) (stages : List StageSlots) (comings : List Coming) : Type 0 where
  pub slots : length stages ≡ length registers
  pub long : length comings ≡ length registers
  pub few : (place : ℕ) (r : StageRegisters) → slice_get registers place ≡ Some r → length r.slots ≤ 64
  pub each : (place : ℕ) (r : StageRegisters) → slice_get registers place ≡ Some r → Each (IsOpen d) (stage_wires r)
  pub apart : (place : ℕ) (r : StageRegisters) → slice_get registers place ≡ Some r → NoneTwice (numbers (stage_wires r))
  pub others : (place other : ℕ) (r q : StageRegisters) → place < other → slice_get registers place ≡ Some r → slice_get registers other ≡ Some q → Each (λ (w : Wire). Each (λ m. m ≢ w.number) (numbers (stage_wires r))) (stage_wires q)
  pub comes : AtPlace registers stages comings (λ r s c. IsComing r s.homes d.nets c)

-- word, place and slots of a stage took what comes, or stay where the stage is held
pub record IsDriven (d : Draft) (r : StageRegisters) (s : StageSlots) (c : Coming) : Type 0 where
  pub word : TakesNet d (PassesOn c.hold r.word c.word) r.word
  pub place : TakesNet d (PassesOn c.hold r.place c.place) r.place
  pub slots : EachFrom (λ slot register. TakesNet d (SlotTakes c.hold register (left_to slot s.homes c.locals)) register) 0 r.slots

-- what comes to each stage is ready, and what its registers hold
abbrev pub AreComingReady : Dependence → Draft → List StageRegisters → List StageSlots → List Coming → Type 0
AreComingReady by d registers stages comings = AtPlace registers stages comings (λ r s c. AreReady by d (coming_numbers r c))

-- The registers of all stages got what they take. Fresh wires came, which follow from what comes and from the registers; all else stays.
pub record DrivesStages (registers : List StageRegisters) (stages : List StageSlots) (comings : List Coming) (old new : Draft) : Type 0 where
  pub each : AtPlace registers stages comings (λ r s c. IsDriven new r s c)
  pub extends : Extends old new
  pub others : (n : ℕ) → IsOther registers n → Unclocked old.nexts n → Unclocked new.nexts n
  pub instances : new.instances ≡ old.instances
  pub ports : ports_among new.nets ≡ ports_among old.nets
  pub fresh : CanFresh new
  pub names : KeepsNew old new
  pub late : StayLate old new
  pub came : (by : Dependence) (later : Draft) → Extends new later → AreComingReady by later registers stages comings → (n : ℕ) → length old.nets ≤ n → n < length new.nets → Ready by later n

-- what stands for a stage where there is none
abbrev pub no_wire : Wire
no_wire = record { number = 0; width = 0 }

abbrev pub no_registers : StageRegisters
no_registers = record { word = no_wire; place = no_wire; slots = [] }

abbrev pub no_slots : StageSlots
no_slots = record { widths = []; homes = [] }

abbrev pub no_coming : Coming
no_coming = record { hold = no_wire; word = no_wire; place = no_wire; locals = [] }

-- of a list that begins with stage 1 what stands for a stage
abbrev pub at_stage : {X : Type 0} → X → List X → ℕ → X
at_stage none list zero = none
at_stage none list (suc place) = unwrap_or (slice_get list place) none

-- To stage 1 come the word that is fetched and the pc, to any later one the word and the address of the stage before.
abbrev pub AreChained : Wire → Wire → List StageRegisters → List Coming → Type 0
AreChained fetched pc registers comings = (place : ℕ) (c : Coming) → slice_get comings place ≡ Some c
    → (c.word ≡ by_stage fetched (λ s. (at_stage no_registers registers s).word) place) × (c.place ≡ by_stage pc (λ s. (at_stage no_registers registers s).place) place)

-- The registers of flights in a draft in which they are driven, by their names.
pub record IsFlying (design : Design) (d : Draft) (idata pc_from : Wire) (stages : List StageSlots) (r : Registers) (comings : List Coming) : Type 0 where
  pub fetched : IsNamed d (codes "idata") idata
  pub names : NamesFront design d stages r
  pub next : Contains d.nexts (record { register = r.pc; from = pc_from })
  pub slots : length stages ≡ design.stages - 1
  pub long : length comings ≡ design.stages - 1
  pub each : AtPlace r.stages stages comings (λ q s c. IsDriven d q s c)
  pub chained : AreChained idata r.pc r.stages comings

-- this goes on where the draft grows
abbrev pub FlightsGoOn : Type 0
FlightsGoOn = (design : Design) (a b : Draft) (fetched pc_from : Wire) (stages : List StageSlots) (r : Registers) (comings : List Coming) → Extends a b → IsFlying design a fetched pc_from stages r comings → IsFlying design b fetched pc_from stages r comings

-- what the border asks of the stages, of these registers and of what comes to them
pub record GivesFlights (design : Design) (d : Draft) (stages : List StageSlots) (r : Registers) (comings : List Coming) : Type 0 where
  pub has : HasFlights design d
  pub hold : (stage : ℕ) → has.hold stage ≡ (at_stage no_coming comings stage).hold
  pub locals : (stage : ℕ) → has.locals stage ≡ (at_stage no_coming comings stage).locals
  pub homes : (stage : ℕ) → has.homes stage ≡ (at_stage no_slots stages stage).homes
  pub registers : (stage : ℕ) → has.registers stage ≡ at_stage no_registers r.stages stage

abbrev pub FlightsGiveBorder : Type 0
FlightsGiveBorder = (design : Design) (d : Draft) (fetched pc_from : Wire) (stages : List StageSlots) (r : Registers) (comings : List Coming) → IsFlying design d fetched pc_from stages r comings → GivesFlights design d stages r comings
