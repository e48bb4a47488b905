-- The units of several cycles in a finished draft, and what the signals of its run show of them.
use Rattle.std.specs.Prelude.{◌≡◌, ◌≢◌, ℕ, ◌+◌, ◌-◌, ◌<◌, ◌≤◌, ◌&&◌, if◌then◌else◌, not, true, List, codes, length, slice_get, Some}
use Rattle.ap_bits.specs.declared.card.Card.{Card}
use Rattle.ap_bits.specs.declared.card.Latency.TheVariants.{WidthPlusOne}
use Rattle.ap_bits.specs.Cards.{latency_at}
use Rattle.ap_desc.specs.declared.design.Design.{Design}
use Rattle.ap_desc.specs.declared.design.Unit.{Unit as Resource}
use Rattle.ap_image.specs.declared.trace.Trace.{Trace}
use Rattle.ap_model.specs.Cycles.{inputs_at}
use Rattle.ap_model.specs.UnitUse.{IsUnitOf, asks, latency_of}
use Rattle.ap_net.specs.declared.cell.Wire.{Wire}
use Rattle.ap_net.specs.declared.net.Instance.{Instance}
use Rattle.ap_net.specs.Draft.{Draft}
use Rattle.ap_net.specs.Modules.{IsModule, ModuleText, module_named}
use Rattle.ap_net.specs.Readings.{Reading}
use Rattle.ap_net.specs.Runs.{bit}
use Rattle.ap_unit.specs.Units.{IsUnit}
use Rattle.ap_cycle.specs.Circuit.{EachStage, ProperBefore, ShowsBusyStage}
use Rattle.ap_cycle.specs.KeptStates.{is_asked}
use Rattle.ap_signals.specs.Asked.{AsksOneOf}
use Rattle.ap_signals.specs.NetRuns.{NetRun, net_value, unit_part}
use Rattle.ap_signals.specs.NetSignals.{is_slow_unit_of, net_signals}
use Rattle.ap_ctl.specs.declared.nets.ControlGiven.{ControlGiven}
use Rattle.ap_ctl.specs.declared.nets.ControlNets.{ControlNets}
use Rattle.ap_ctl.specs.Meaning.{is_held}
use Rattle.ap_ctl.specs.Nets.{Shows}
use Rattle.ap_border.specs.Control.{RunsControl}
use Rattle.ap_border.specs.Flights.{FlightsGo}

-- A unit of several cycles that lines of a stage use: an instance of a unit of its card. Its go says that the word in the stage asks it,
-- and its adv that the stage isn't held.
pub record HasSlowUnit (design : Design) (d : Draft) (modules : List ModuleText) (given : ControlGiven) (nets : ControlNets) (stage unit : ℕ) : Type 0 where
  pub low : 1 ≤ stage
  pub high : stage ≤ design.stages - 1
  pub resource : Resource
  pub at : slice_get design.units unit ≡ Some resource
  pub k : ℕ
  pub of : Instance
  pub placed : slice_get d.instances k ≡ Some of
  pub named : of.name ≡ unit_part resource
  pub other : unit_part resource ≢ d.name
  pub whole : ModuleText
  pub found : module_named modules of.module ≡ Some whole
  pub kept : IsModule whole
  pub card : Card
  pub slow : card.latency ≡ WidthPlusOne
  pub is_unit : IsUnit whole card resource.width
  pub latency : latency_of design unit ≡ latency_at card resource.width
  pub some : 0 < length card.ops
  pub go : Wire
  pub go_at : slice_get of.nets 3 ≡ Some go
  pub goes : Shows design given nets.valid d (λ look. look.valid stage && asks design stage (look.word stage) unit) go
  pub adv : Wire
  pub adv_at : slice_get of.nets 4 ≡ Some adv
  pub advances : Shows design given nets.valid d (λ look. not (is_held design look stage)) adv

-- every unit of several cycles that some line uses
abbrev pub HasSlowUnits : (design : Design) (given : ControlGiven) (run : NetRun) (c : ℕ) (reading : ℕ → Reading) → RunsControl design given run c reading → Type 0
HasSlowUnits design given run c reading runs = (stage unit : ℕ) → is_slow_unit_of design stage unit ≡ true → HasSlowUnit design runs.draft runs.modules given runs.nets stage unit

-- a unit's age goes on as the border asks
abbrev pub AgesAreShown : Type 0
AgesAreShown = (design : Design) (given : ControlGiven) (run : NetRun) (c : ℕ) (reading : ℕ → Reading) → (runs : RunsControl design given run c reading) → HasSlowUnits design given run c reading runs → (j : ℕ) → j < c
    → (stage unit : ℕ) → IsUnitOf design stage unit
    → (net_signals design run (j + 1)).age unit ≡ (if (net_signals design run j).hold stage && is_asked design (net_signals design run j) stage unit then (net_signals design run j).age unit + 1 else 0)

-- each unit is asked one of its card's operations
abbrev pub AskOperations : (design : Design) (given : ControlGiven) (run : NetRun) (c : ℕ) (reading : ℕ → Reading) → (runs : RunsControl design given run c reading) → HasSlowUnits design given run c reading runs → Type 0
AskOperations design given run c reading runs units = (stage unit : ℕ) → (slow : is_slow_unit_of design stage unit ≡ true) → AsksOneOf design stage unit (net_signals design run) (length ((units stage unit slow).card).ops) c

-- mwait is the trace's
abbrev pub ShowsWait : Trace → Design → NetRun → ℕ → Type 0
ShowsWait trace design run j = net_value run j (codes "mwait") ≡ bit (inputs_at design trace j).wait

-- Where held stages stay as they are, and units were asked properly in earlier cycles, a stage shows that it is busy.
abbrev pub BusyIsShown : Type 0
BusyIsShown = (design : Design) (given : ControlGiven) (trace : Trace) (run : NetRun) (c : ℕ) (reading : ℕ → Reading) → (runs : RunsControl design given run c reading) → (units : HasSlowUnits design given run c reading runs)
    → AskOperations design given run c reading runs units → ((j : ℕ) → j < c → FlightsGo design run j) → (j : ℕ) → j < c → ShowsWait trace design run j → ProperBefore design (net_signals design run) j
    → EachStage design (ShowsBusyStage design (inputs_at design trace j) (net_signals design run j))
