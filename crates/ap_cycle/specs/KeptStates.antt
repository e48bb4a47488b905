-- That signals keep the machine's state: what they have of each flight, and of all that is stored.
use Rattle.std.specs.Prelude.{◌≡◌, ℕ, ◌+◌, ◌-◌, ◌&&◌, Bool, true, false, List, [], ◌∷◌, Option, Some, None, slice_index, length}
use Rattle.ap_desc.specs.declared.design.Design.{Design}
use Rattle.ap_model.specs.declared.state.Flight.{Flight}
use Rattle.ap_model.specs.declared.state.State.{State}
use Rattle.ap_model.specs.FlightLocals.{is_live}
use Rattle.ap_model.specs.PortForms.{HasAll}
use Rattle.ap_model.specs.UnitUse.{asks}
use Rattle.ap_cycle.specs.Signals.{Signals}

-- the stage has this flight: its word, the word's address, its live locals, and for how long its units have been asked. What the
-- slots hold otherwise is free
pub record HasFlight (design : Design) (signals : Signals) (stage : ℕ) (flight : Flight) : Type 0 where
  pub valid : signals.valid stage ≡ true
  pub word : signals.word stage ≡ flight.word
  pub place : signals.place stage ≡ flight.place
  pub locals : (i : ℕ) → is_live design flight.word stage i ≡ true → signals.local stage i ≡ slice_index flight.locals i
  pub ages : (unit : ℕ) → asks design stage flight.word unit ≡ true → signals.age unit ≡ flight.waited

abbrev pub KeepsStage : Design → Signals → ℕ → Option Flight → Type 0
KeepsStage design signals stage None = signals.valid stage ≡ false
KeepsStage design signals stage (Some flight) = HasFlight design signals stage flight

-- the stages from this one on have these flights
abbrev pub KeepsFrom : Design → Signals → ℕ → List (Option Flight) → Type 0
KeepsFrom design signals stage [] = Unit {0}
KeepsFrom design signals stage (flight ∷ flights) = KeepsStage design signals stage flight × KeepsFrom design signals (stage + 1) flights

-- the signals keep the machine's state
pub record KeepsState (design : Design) (signals : Signals) (state : State) : Type 0 where
  pub pc : signals.pc ≡ state.pc
  pub storages : signals.storages ≡ state.storages
  pub flights : KeepsFrom design signals 1 state.flights
  pub count : length state.flights ≡ design.stages - 1
  pub has_all : HasAll design state.storages

-- the unit is asked by the word in the stage
abbrev pub is_asked : Design → Signals → ℕ → ℕ → Bool
is_asked design signals stage unit = signals.valid stage && asks design stage (signals.word stage) unit
