-- The border between what a circuit computes within a cycle and what it stores from cycle to cycle: what is to be shown of a circuit,
-- line by line and register by register. Nothing here speaks of the machine's steps. Where a stage is empty, held or killed, what it
-- hands on is free.
use Rattle.std.specs.Prelude.{◌≡◌, ℕ, ◌+◌, ◌-◌, ◌%◌, ◌^◌, ◌<◌, ◌≤◌, ◌&&◌, ◌||◌, nat_lt, if◌then◌else◌, map, Bool, true, false, List, filter_map, length, Option, Some, None, slice_get, slice_index, unwrap_or}
use Rattle.std.specs.List.{list_any, range_with_len}
use Rattle.ap_bits.specs.declared.card.Card.{Card}
use Rattle.ap_desc.specs.declared.design.Arg.{Arg}
use Rattle.ap_desc.specs.declared.design.Arg.TheVariants as arg
use Rattle.ap_desc.specs.declared.design.Design.{Design}
use Rattle.ap_desc.specs.declared.design.Instr.{Instr}
use Rattle.ap_desc.specs.declared.design.Micro.{Micro}
use Rattle.ap_image.specs.declared.image.Image.{Image}
use Rattle.ap_image.specs.declared.trace.Trace.{Trace}
use Rattle.ap_image.specs.declared.trace.TraceLine.{TraceLine}
use Rattle.ap_model.specs.declared.state.Flight.{Flight}
use Rattle.ap_model.specs.declared.storage.WritePort.{WritePort}
use Rattle.ap_model.specs.Cycles.{inputs_at}
use Rattle.ap_model.specs.Fire.{instr_of, lines_in, target_of}
use Rattle.ap_model.specs.FlightLocals.{HasLocals, is_live}
use Rattle.ap_model.specs.LineForms.{ReadsLines}
use Rattle.ap_model.specs.PortForms.{GoesThroughPorts, StoresWrites, line_write}
use Rattle.ap_model.specs.Ports.{is_used_in}
use Rattle.ap_model.specs.Stalls.{has_memory_line, is_held_stage}
use Rattle.ap_model.specs.States.{start_storages}
use Rattle.ap_model.specs.UnitUse.{IsUnitOf, asks, is_quick, latency_of, lines_ask}
use Rattle.ap_cycle.specs.KeptStates.{HasFlight, is_asked}
use Rattle.ap_cycle.specs.Signals.{Signals, goes_on, is_stopped}

-- the stages in which lines stand
abbrev pub EachStage : Design → (ℕ → Type 0) → Type 0
EachStage design P = (stage : ℕ) → 1 ≤ stage → stage ≤ design.stages - 1 → P stage

-- a flight that a stage may have
abbrev pub EachFlight : Design → Signals → ℕ → (Flight → Type 0) → Type 0
EachFlight design signals stage P = (flight : Flight) → HasLocals design stage flight → HasFlight design signals stage flight → P flight

-- What a stage shows in which a flight of this instruction stands, where value gives its operands: the lines' equations, the transfer
-- that is taken, and, where the flight fires, the writes and the locals that leave the stage.
pub record ShowsLines (design : Design) (cards : List Card) (inputs : TraceLine) (signals : Signals) (stage : ℕ) (flight : Flight) (instr : Instr) (value : Arg → ℕ) : Type 0 where
  pub reads : ReadsLines design cards inputs signals.storages stage flight instr (λ a. true) (signals.local stage) value
  pub taken : stage ≡ design.branch → signals.taken ≡ slice_get (filter_map (λ (m : Micro). target_of value m.act) (lines_in stage instr)) 0
  pub writes : is_stopped design signals stage ≡ false → (p : WritePort) → is_used_in design stage p ≡ true → signals.write p ≡ line_write value p (lines_in stage instr)
  pub left : is_stopped design signals stage ≡ false → (i : ℕ) → is_live design flight.word (stage + 1) i ≡ true → signals.left stage i ≡ value (arg.Local i)

-- and one in which a flight stands that matches no instruction
pub record ShowsNothing (design : Design) (signals : Signals) (stage : ℕ) : Type 0 where
  pub taken : stage ≡ design.branch → signals.taken ≡ None
  pub writes : (p : WritePort) → is_used_in design stage p ≡ true → signals.write p ≡ None

abbrev pub ShowsWord : Design → List Card → TraceLine → Signals → ℕ → Flight → Option Instr → Type 0
ShowsWord design cards inputs signals stage flight None = ShowsNothing design signals stage
ShowsWord design cards inputs signals stage flight (Some instr) = (value : Arg → ℕ) × ShowsLines design cards inputs signals stage flight instr value

-- What a stage asks of units that take several cycles, whether it is held or not: the equations of the other lines, and what each
-- unit is asked.
pub record AsksLines (design : Design) (cards : List Card) (inputs : TraceLine) (signals : Signals) (stage : ℕ) (flight : Flight) (instr : Instr) (value : Arg → ℕ) : Type 0 where
  pub reads : ReadsLines design cards inputs signals.storages stage flight instr (is_quick design) (signals.local stage) value
  pub ask : (unit : ℕ) → asks design stage flight.word unit ≡ true → Some (signals.ask unit) ≡ lines_ask value unit (lines_in stage instr)

abbrev pub AsksOfWord : Design → List Card → TraceLine → Signals → ℕ → Flight → Option Instr → Type 0
AsksOfWord design cards inputs signals stage flight None = Unit {0}
AsksOfWord design cards inputs signals stage flight (Some instr) = (value : Arg → ℕ) × AsksLines design cards inputs signals stage flight instr value

-- Busy stages.

-- the unit is busy in the stage: it is asked and isn't done
abbrev pub is_unit_busy : Design → Signals → ℕ → ℕ → Bool
is_unit_busy design signals stage unit = is_asked design signals stage unit && nat_lt (signals.age unit + 1) (latency_of design unit)

-- the stage waits for a memory
abbrev pub waits : Design → TraceLine → Signals → ℕ → Bool
waits design inputs signals stage = inputs.wait && signals.valid stage && has_memory_line design stage (signals.word stage)

-- a stage is busy with its units or waits for a memory
abbrev pub is_stage_busy : Design → TraceLine → Signals → ℕ → Bool
is_stage_busy design inputs signals stage = list_any (is_unit_busy design signals stage) (range_with_len 0 (length design.units)) || waits design inputs signals stage

-- Once it has been asked, a unit is asked the same as in the cycle before; and where its stage isn't held and it is asked, it is done.
pub record IsProper (design : Design) (stage unit : ℕ) (before now : Signals) : Type 0 where
  pub held : 0 < now.age unit → (is_asked design now stage unit ≡ true) × (now.ask unit ≡ before.ask unit)
  pub done : now.hold stage ≡ false → is_asked design now stage unit ≡ true → latency_of design unit ≤ now.age unit + 1

-- in the cycles before this one the units of all stages were asked properly
abbrev pub ProperBefore : Design → (ℕ → Signals) → ℕ → Type 0
ProperBefore design signals c = (j : ℕ) → j < c → (stage unit : ℕ) → 1 ≤ stage → stage ≤ design.stages - 1 → IsUnitOf design stage unit → IsProper design stage unit (signals (j - 1)) (signals j)

-- From cycle to cycle.

-- the next stage has a word where this one's goes on, and then that word, its address and the live ones of the locals that left
pub record Passes (design : Design) (signals next : Signals) (stage : ℕ) : Type 0 where
  pub valid : next.valid (stage + 1) ≡ goes_on design signals stage
  pub word : goes_on design signals stage ≡ true → next.word (stage + 1) ≡ signals.word stage
  pub place : goes_on design signals stage ≡ true → next.place (stage + 1) ≡ signals.place stage
  pub locals : goes_on design signals stage ≡ true → (i : ℕ) → is_live design (signals.word stage) (stage + 1) i ≡ true → next.local (stage + 1) i ≡ signals.left stage i

-- a held stage that has a word stays as it is, and an empty one stays empty
pub record Stays (design : Design) (signals next : Signals) (stage : ℕ) : Type 0 where
  pub valid : next.valid stage ≡ signals.valid stage
  pub word : signals.valid stage ≡ true → next.word stage ≡ signals.word stage
  pub place : signals.valid stage ≡ true → next.place stage ≡ signals.place stage
  pub locals : signals.valid stage ≡ true → (i : ℕ) → is_live design (signals.word stage) stage i ≡ true → next.local stage i ≡ signals.local stage i

-- what is stored at the start of the next cycle
pub record NextState (design : Design) (signals next : Signals) : Type 0 where
  pub pc : next.pc ≡ (if signals.hold 0 then signals.pc else unwrap_or signals.taken ((signals.pc + 1) % 2 ^ design.address))
  pub storages : StoresWrites design signals.write signals.storages next.storages
  pub ages : (stage unit : ℕ) → IsUnitOf design stage unit → next.age unit ≡ (if signals.hold stage && is_asked design signals stage unit then signals.age unit + 1 else 0)
  pub passes : (stage : ℕ) → stage + 1 ≤ design.stages - 1 → signals.hold (stage + 1) ≡ false → Passes design signals next stage
  pub stays : EachStage design (λ stage. signals.hold stage ≡ true → Stays design signals next stage)

-- what is stored at the start
pub record Starts (design : Design) (image : Image) (signals : Signals) : Type 0 where
  pub pc : signals.pc ≡ 0
  pub storages : signals.storages ≡ start_storages design image
  pub empty : EachStage design (λ stage. signals.valid stage ≡ false)
  pub fresh : (unit : ℕ) → signals.age unit ≡ 0

-- One cycle.

-- where no transfer is taken and nothing is written: the transfer's stage is empty or held; a stage's word doesn't go on
pub record IsQuiet (design : Design) (signals : Signals) (stage : ℕ) : Type 0 where
  pub untaken : stage ≡ design.branch → signals.valid stage ≡ false → signals.taken ≡ None
  pub held : stage ≡ design.branch → signals.hold stage ≡ true → signals.taken ≡ None
  pub unwritten : goes_on design signals stage ≡ false → (p : WritePort) → is_used_in design stage p ≡ true → signals.write p ≡ None

-- the word at the pc is fetched, and stage 0 always has one
pub record Fetches (image : Image) (signals : Signals) : Type 0 where
  pub valid : signals.valid 0 ≡ true
  pub place : signals.place 0 ≡ signals.pc
  pub word : signals.word 0 ≡ slice_index image.code signals.pc

-- the stages are held that busy stages hold
abbrev pub HoldsBusy : Design → Signals → Type 0
HoldsBusy design signals = (stage : ℕ) → signals.hold stage ≡ is_held_stage design (map signals.busy (range_with_len 1 (design.stages - 1))) stage

-- a stage shows that it is busy; what it asks; and, where it isn't held, what its flight does
abbrev pub ShowsBusyStage : Design → TraceLine → Signals → ℕ → Type 0
ShowsBusyStage design inputs signals stage = signals.busy stage ≡ is_stage_busy design inputs signals stage

abbrev pub ShowsAsked : Design → List Card → TraceLine → Signals → ℕ → Type 0
ShowsAsked design cards inputs signals stage = EachFlight design signals stage (λ flight. AsksOfWord design cards inputs signals stage flight (instr_of design flight.word))

abbrev pub ShowsFired : Design → List Card → TraceLine → Signals → ℕ → Type 0
ShowsFired design cards inputs signals stage = signals.hold stage ≡ false → EachFlight design signals stage (λ flight. ShowsWord design cards inputs signals stage flight (instr_of design flight.word))

-- c cycles of a circuit. Where units of several cycles come in, they may be taken to have been asked properly: in earlier cycles for
-- what is busy, and in this one too for what they give.
pub record IsCircuit (design : Design) (cards : List Card) (image : Image) (trace : Trace) (c : ℕ) (signals : ℕ → Signals) : Type 0 where
  pub starts : Starts design image (signals 0)
  pub next : (j : ℕ) → j < c → NextState design (signals j) (signals (j + 1))
  pub fetches : (j : ℕ) → j < c → Fetches image (signals j)
  pub writes : (j : ℕ) → j < c → GoesThroughPorts design (signals j).write
  pub hold : (j : ℕ) → j < c → HoldsBusy design (signals j)
  pub quiet : (j : ℕ) → j < c → EachStage design (IsQuiet design (signals j))
  pub busy : (j : ℕ) → j < c → ProperBefore design signals j → EachStage design (ShowsBusyStage design (inputs_at design trace j) (signals j))
  pub asked : (j : ℕ) → j < c → EachStage design (ShowsAsked design cards (inputs_at design trace j) (signals j))
  pub shown : (j : ℕ) → j < c → ProperBefore design signals (j + 1) → EachStage design (ShowsFired design cards (inputs_at design trace j) (signals j))
