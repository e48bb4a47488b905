-- What a cycle shows, in the machine's words: the middle between the border and the machine.
use Rattle.std.proofs.Common.{◌≡◌, ℕ, ◌+◌, ◌<◌, true, false, List, Some, slice_index}
use Rattle.ap_bits.specs.declared.card.Card.{Card}
use Rattle.ap_desc.specs.declared.design.Design.{Design}
use Rattle.ap_image.specs.declared.image.Image.{Image}
use Rattle.ap_image.specs.declared.trace.Trace.{Trace}
use Rattle.ap_image.specs.declared.trace.TraceLine.{TraceLine}
use Rattle.ap_model.specs.declared.state.Flight.{Flight}
use Rattle.ap_model.specs.declared.state.StageEffect.{StageEffect}
use Rattle.ap_model.specs.Cycles.{inputs_at}
use Rattle.ap_model.specs.FlightLocals.{is_live}
use Rattle.ap_model.specs.LineForms.{fired}
use Rattle.ap_model.specs.PortForms.{GoesThroughPorts, ShowsWrites}
use Rattle.ap_model.specs.Stalls.{is_flight_busy}
use Rattle.ap_model.specs.UnitUse.{asks, unit_ask}
use Rattle.ap_cycle.specs.Circuit.{EachFlight, EachStage, Fetches, HoldsBusy, IsQuiet, NextState, ProperBefore, Starts}
use Rattle.ap_cycle.specs.Signals.{Signals, is_stopped}

-- what the machine does with a flight in a stage, on what the signals store
abbrev pub effect_of : Design → List Card → TraceLine → Signals → ℕ → Flight → StageEffect
effect_of design cards inputs signals stage flight = fired design cards inputs signals.storages stage flight

-- A stage that has this flight shows whether it is busy. If it isn't held, a transfer is taken as the flight does; and if the flight
-- isn't killed either, what it does goes out.
pub record ShowsFlight (design : Design) (cards : List Card) (inputs : TraceLine) (signals : Signals) (stage : ℕ) (flight : Flight) : Type 0 where
  pub busy : signals.busy stage ≡ is_flight_busy design inputs.wait stage flight
  pub taken : stage ≡ design.branch → signals.hold stage ≡ false → signals.taken ≡ (effect_of design cards inputs signals stage flight).target
  pub writes : is_stopped design signals stage ≡ false → ShowsWrites design signals.write stage (effect_of design cards inputs signals stage flight).writes
  pub left : is_stopped design signals stage ≡ false → (i : ℕ) → is_live design flight.word (stage + 1) i ≡ true → signals.left stage i ≡ slice_index (effect_of design cards inputs signals stage flight).locals i

-- A stage shows what the machine does with whatever flight it has; without one it isn't busy.
pub record ShowsStage (design : Design) (cards : List Card) (inputs : TraceLine) (signals : Signals) (stage : ℕ) : Type 0 where
  pub flight : EachFlight design signals stage (ShowsFlight design cards inputs signals stage)
  pub free : signals.valid stage ≡ false → signals.busy stage ≡ false
  pub quiet : IsQuiet design signals stage

-- one cycle
pub record IsCycle (design : Design) (cards : List Card) (image : Image) (inputs : TraceLine) (signals : Signals) : Type 0 where
  pub stages : EachStage design (ShowsStage design cards inputs signals)
  pub hold : HoldsBusy design signals
  pub theirs : GoesThroughPorts design signals.write
  pub fetches : Fetches image signals

-- c cycles, one after another, from the start on
pub record Goes (design : Design) (cards : List Card) (image : Image) (trace : Trace) (c : ℕ) (signals : ℕ → Signals) : Type 0 where
  pub starts : Starts design image (signals 0)
  pub cycles : (j : ℕ) → j < c → IsCycle design cards image (inputs_at design trace j) (signals j)
  pub next : (j : ℕ) → j < c → NextState design (signals j) (signals (j + 1))

-- a stage shows whether it is busy
pub record ShowsBusy (design : Design) (inputs : TraceLine) (signals : Signals) (stage : ℕ) : Type 0 where
  pub flight : EachFlight design signals stage (λ flight. signals.busy stage ≡ is_flight_busy design inputs.wait stage flight)
  pub free : signals.valid stage ≡ false → signals.busy stage ≡ false

-- a stage asks its units of several cycles what its flight asks
abbrev pub ShowsAsks : Design → List Card → TraceLine → Signals → ℕ → Type 0
ShowsAsks design cards inputs signals stage = EachFlight design signals stage (λ flight. (unit : ℕ) → asks design stage flight.word unit ≡ true → Some (signals.ask unit) ≡ unit_ask design cards inputs signals.storages stage flight unit)

-- The circuit works, as far as its units of several cycles do: busy is right where they were asked properly before, and all is right
-- where they are asked properly in this cycle too.
pub record Works (design : Design) (cards : List Card) (image : Image) (trace : Trace) (c : ℕ) (signals : ℕ → Signals) : Type 0 where
  pub starts : Starts design image (signals 0)
  pub hold : (j : ℕ) → j < c → HoldsBusy design (signals j)
  pub asked : (j : ℕ) → j < c → EachStage design (ShowsAsks design cards (inputs_at design trace j) (signals j))
  pub busy : (j : ℕ) → j < c → ProperBefore design signals j → EachStage design (ShowsBusy design (inputs_at design trace j) (signals j))
  pub cycles : (j : ℕ) → j < c → ProperBefore design signals (j + 1) → IsCycle design cards image (inputs_at design trace j) (signals j)
  pub next : (j : ℕ) → j < c → NextState design (signals j) (signals (j + 1))
