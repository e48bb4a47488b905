-- One cycle of overlapped execution, and the state after some cycles. In a cycle every flight whose stage isn't held and that isn't
-- killed fires on the storages as they were, and goes on to the next stage; the writes are applied at the end, the last stage first.
use Rattle.std.specs.Prelude.{ℕ, zero, suc, ◌+◌, ◌-◌, ◌%◌, ◌^◌, ◌||◌, ◌&&◌, nat_lt, max, if◌then◌else◌, Bool, List, [], ◌∷◌, ◌++◌, map, fold, filter, Option, Some, None, is_some, unwrap_or, option_map, option_and_then, slice_index, slice_index_or}
use Rattle.std.specs.Option.{option_map_or}
use Rattle.ap_bits.specs.declared.card.Card.{Card}
use Rattle.ap_desc.specs.declared.design.Design.{Design}
use Rattle.ap_desc.specs.declared.design.InPort.{InPort}
use Rattle.ap_image.specs.FitsShape.{line_at}
use Rattle.ap_image.specs.declared.image.Image.{Image}
use Rattle.ap_image.specs.declared.trace.Trace.{Trace}
use Rattle.ap_image.specs.declared.trace.TraceLine.{TraceLine}
use Rattle.ap_model.specs.declared.state.StageEffect.{StageEffect}
use Rattle.ap_model.specs.declared.state.Entry.{Entry}
use Rattle.ap_model.specs.declared.state.Flight.{Flight}
use Rattle.ap_model.specs.declared.state.InputRead.{InputRead}
use Rattle.ap_model.specs.declared.state.Pass.{Pass}
use Rattle.ap_model.specs.declared.state.Sample.{Sample}
use Rattle.ap_model.specs.declared.state.State.{State}
use Rattle.ap_model.specs.declared.storage.PortWrite.{PortWrite}
use Rattle.ap_model.specs.Fire.{fire}
use Rattle.ap_model.specs.Stalls.{busy_from, is_held_stage}
use Rattle.ap_model.specs.States.{start}
use Rattle.ap_model.specs.Stored.{with_writes}

-- what an input read takes in a cycle: the value of its port
abbrev pub port_input : TraceLine → ℕ → ℕ → ℕ
port_input inputs line port = slice_index inputs.ports port

-- what a flight does in its stage, if it fires
abbrev pub flight_effect : Design → List Card → TraceLine → State → ℕ → Flight → StageEffect
flight_effect design cards inputs state stage flight = fire design cards stage flight.place flight.word flight.locals state.storages (port_input inputs)

-- what decides on a cycle: which stages are held, and the target of the transfer that is taken
pub record CycleControl : Type 0 where
  pub held : ℕ → Bool
  pub taken : Option ℕ

-- which stages are held in a cycle
abbrev pub held_stages : Design → TraceLine → State → ℕ → Bool
held_stages design inputs state = is_held_stage design (busy_from design inputs.wait 1 state.flights)

-- the flight in a stage from 1 on, if there is one
abbrev pub flight_at : State → ℕ → Option Flight
flight_at state stage = slice_index_or state.flights (stage - 1) None

-- the target of the transfer that the flight in the transfer stage takes, where that stage isn't held
abbrev pub taken_transfer : Design → List Card → TraceLine → State → Option ℕ
taken_transfer design cards inputs state =
    if held_stages design inputs state design.branch then None
    else option_and_then (λ flight. (flight_effect design cards inputs state design.branch flight).target) (flight_at state design.branch)

unfoldable pub control_of : Design → List Card → TraceLine → State → CycleControl
control_of design cards inputs state = record { held = held_stages design inputs state; taken = taken_transfer design cards inputs state }

-- where a transfer is taken, the flight in a stage is killed that is more stages before the transfer's than there are slots; the word
-- being fetched counts as stage 0
abbrev pub is_killed : Design → CycleControl → ℕ → Bool
is_killed design control stage = is_some control.taken && nat_lt design.slots (design.branch - stage)

-- what a flight does in this cycle: nothing where its stage is held or it is killed
abbrev pub effect_in : Design → List Card → TraceLine → State → CycleControl → ℕ → Flight → Option StageEffect
effect_in design cards inputs state control stage flight =
    if control.held stage || is_killed design control stage then None else Some (flight_effect design cards inputs state stage flight)

-- what is told of the flights, from this stage on, the last stage first
abbrev pub from_last : {X : Type 0} → (ℕ → Flight → List X) → ℕ → List (Option Flight) → List X
from_last told stage [] = []
from_last told stage (flight ∷ flights) = from_last told (stage + 1) flights ++ option_map_or (told stage) flight []

-- a write of a flight, with its number and stage
abbrev pub entry_of : ℕ → ℕ → PortWrite → Entry
entry_of stage number write = record { number = number; stage = stage; write = write }

abbrev pub entries_of : ℕ → ℕ → StageEffect → List Entry
entries_of stage number effect = map (entry_of stage number) effect.writes

-- a sample of a flight, with its number
abbrev pub sample_of : ℕ → InputRead → Sample
sample_of number read = record { number = number; line = read.line; value = read.value }

abbrev pub samples_of : ℕ → StageEffect → List Sample
samples_of number effect = map (sample_of number) effect.reads

-- the writes, the samples and the passed stages of a flight in this cycle
abbrev pub flight_entries : Design → List Card → TraceLine → State → CycleControl → ℕ → Flight → List Entry
flight_entries design cards inputs state control stage flight = option_map_or (entries_of stage flight.number) (effect_in design cards inputs state control stage flight) []

abbrev pub flight_samples : Design → List Card → TraceLine → State → CycleControl → ℕ → Flight → List Sample
flight_samples design cards inputs state control stage flight = option_map_or (samples_of flight.number) (effect_in design cards inputs state control stage flight) []

abbrev pub flight_passes : Design → CycleControl → ℕ → Flight → List Pass
flight_passes design control stage flight = if control.held stage || is_killed design control stage then [] else record { number = flight.number; stage = stage } ∷ []

-- the writes of a cycle, the last stage first and within a stage in the order of its writes
unfoldable pub cycle_entries : Design → List Card → TraceLine → State → CycleControl → List Entry
cycle_entries design cards inputs state control = from_last (flight_entries design cards inputs state control) 1 state.flights

-- the samples of a cycle
unfoldable pub cycle_samples : Design → List Card → TraceLine → State → CycleControl → List Sample
cycle_samples design cards inputs state control = from_last (flight_samples design cards inputs state control) 1 state.flights

-- the stages that flights pass in a cycle
unfoldable pub cycle_passes : Design → State → CycleControl → List Pass
cycle_passes design state control = from_last (flight_passes design control) 1 state.flights

-- the word that is fetched
abbrev pub fetched : Image → State → Flight
fetched image state = record { number = state.next; word = slice_index image.code state.pc; place = state.pc; locals = []; waited = 0 }

-- what enters stage 1: the fetched word, unless stage 0 is held or the word is killed
abbrev pub entering : Design → Image → State → CycleControl → Option Flight
entering design image state control = if control.held 0 || is_killed design control 0 then None else Some (fetched image state)

-- a flight goes on to the next stage with what it did
abbrev pub gone_on : Flight → StageEffect → Flight
gone_on flight effect = record flight { locals = effect.locals; waited = 0 }

-- a flight stays in its stage
abbrev pub staying : Flight → Flight
staying flight = record flight { waited = flight.waited + 1 }

-- what leaves a stage for the next one
abbrev pub leaving : Design → List Card → TraceLine → State → CycleControl → ℕ → Option Flight → Option Flight
leaving design cards inputs state control stage flight = option_and_then (λ f. option_map (gone_on f) (effect_in design cards inputs state control stage f)) flight

-- the flights after a cycle, from this stage on: the flight of a held stage stays there, and any other stage gets what comes from the
-- stage before
abbrev pub flights_from : Design → List Card → TraceLine → State → CycleControl → ℕ → Option Flight → List (Option Flight) → List (Option Flight)
flights_from design cards inputs state control stage coming [] = []
flights_from design cards inputs state control stage coming (flight ∷ flights) =
    (if control.held stage then option_map staying flight else coming) ∷ flights_from design cards inputs state control (stage + 1) (leaving design cards inputs state control stage flight) flights

unfoldable pub cycle_flights : Design → List Card → Image → TraceLine → State → CycleControl → List (Option Flight)
cycle_flights design cards image inputs state control = flights_from design cards inputs state control 1 (entering design image state control) state.flights

-- the pc after a cycle: the target, or the next address; where stage 0 is held it stays
abbrev pub next_pc : Design → State → CycleControl → ℕ
next_pc design state control = if control.held 0 then state.pc else unwrap_or control.taken ((state.pc + 1) % 2 ^ design.address)

-- the number of a flight that isn't killed
abbrev pub unkilled_number : Design → CycleControl → ℕ → Flight → List ℕ
unkilled_number design control stage flight = if is_killed design control stage then [] else flight.number ∷ []

-- the numbers of all that aren't killed, the word being fetched among them
abbrev pub unkilled_numbers : Design → State → CycleControl → List ℕ
unkilled_numbers design state control = from_last (unkilled_number design control) 1 state.flights ++ (if control.held 0 || is_killed design control 0 then [] else state.next ∷ [])

-- the next number after a cycle: one more than the greatest that wasn't killed where a transfer was taken; else it goes on with each
-- fetched word
abbrev pub next_number : Design → State → CycleControl → ℕ
next_number design state control = if is_some control.taken then fold max 0 (unkilled_numbers design state control) + 1 else if control.held 0 then state.next else state.next + 1

-- what is kept of samples or of passed stages where a transfer was taken: those of lower numbers than the next
abbrev pub kept : {X : Type 0} → (X → ℕ) → CycleControl → ℕ → List X → List X
kept number control next xs = if is_some control.taken then filter (λ x. nat_lt (number x) next) xs else xs

-- the state after a cycle that this decides on
unfoldable pub after_control : Design → List Card → Image → TraceLine → State → CycleControl → State
after_control design cards image inputs state control =
    let entries = cycle_entries design cards inputs state control in
    let next = next_number design state control in
    record {
      pc = next_pc design state control;
      storages = with_writes state.storages (map (λ (e : Entry). e.write) entries);
      flights = cycle_flights design cards image inputs state control;
      next = next;
      log = state.log ++ entries;
      sampled = kept (λ (s : Sample). s.number) control next (state.sampled ++ cycle_samples design cards inputs state control);
      passes = kept (λ (p : Pass). p.number) control next (state.passes ++ cycle_passes design state control);
    }

-- one cycle, with these inputs
unfoldable pub cycle : Design → List Card → Image → TraceLine → State → State
cycle design cards image inputs state = after_control design cards image inputs state (control_of design cards inputs state)

-- the inputs of cycle j; after the trace's last line all is 0
abbrev pub inputs_at : Design → Trace → ℕ → TraceLine
inputs_at design trace j = line_at trace (map (λ (p : InPort). p.width) design.inputs) j

-- the state after c cycles
unfoldable pub over : Design → List Card → Image → Trace → ℕ → State
over design cards image trace zero = start design image
over design cards image trace (suc c) = cycle design cards image (inputs_at design trace c) (over design cards image trace c)
