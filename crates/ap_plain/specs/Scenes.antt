-- What the plain program goes by in one cycle, and what its flights do then.
use Rattle.std.specs.Prelude.{ℕ, List, Option, IfSome}
use Rattle.ap_image.specs.declared.image.Image.{Image}
use Rattle.ap_model.specs.Runnable.{IsRunnable}
use Rattle.ap_plain.specs.declared.scene.Scene.{Scene}
use Rattle.ap_model.specs.declared.state.Entry.{Entry}
use Rattle.ap_model.specs.declared.state.Flight.{Flight}
use Rattle.ap_model.specs.declared.state.Pass.{Pass}
use Rattle.ap_model.specs.declared.state.Sample.{Sample}
use Rattle.ap_model.specs.declared.state.StageEffect.{StageEffect}
use Rattle.ap_image.specs.declared.row.Row.{Row}
use Rattle.ap_model.specs.declared.state.State.{State}
use Rattle.ap_model.specs.Cycles.{CycleControl, after_control, cycle_entries, cycle_flights, cycle_passes, cycle_samples, effect_in, entering, flight_entries, flight_passes, flight_samples, flights_from, leaving, next_number, unkilled_number, unkilled_numbers}
use Rattle.ap_model.specs.Fitting.{EntriesFit, FlightFits, FlightsFit, PortsFit, StoragesFit}
use Rattle.ap_model.specs.ShownRows.{control_row}
use Rattle.ap_model.specs.Stalls.{is_held_stage}

-- what decides on the cycle
abbrev pub control_of_scene : Scene → CycleControl
control_of_scene scene = record { held = is_held_stage scene.design.now scene.busy.now; taken = scene.taken }

-- what flights look at fits
pub record SceneFits (scene : Scene) : Type 0 where
  pub design : IsRunnable scene.design.now scene.cards.now
  pub ports : PortsFit scene.design.now scene.inputs.now.ports
  pub storages : StoragesFit scene.design.now scene.state.now.storages

-- what a flight in a stage does; its writes, its samples, the stage that it passes, its number unless it is killed; and what leaves
-- the stage for the next one
abbrev pub scene_effect : Scene → ℕ → Flight → Option StageEffect
scene_effect scene = effect_in scene.design.now scene.cards.now scene.inputs.now scene.state.now (control_of_scene scene)

abbrev pub scene_entries : Scene → ℕ → Flight → List Entry
scene_entries scene = flight_entries scene.design.now scene.cards.now scene.inputs.now scene.state.now (control_of_scene scene)

abbrev pub scene_samples : Scene → ℕ → Flight → List Sample
scene_samples scene = flight_samples scene.design.now scene.cards.now scene.inputs.now scene.state.now (control_of_scene scene)

abbrev pub scene_passes : Scene → ℕ → Flight → List Pass
scene_passes scene = flight_passes scene.design.now (control_of_scene scene)

abbrev pub scene_number : Scene → ℕ → Flight → List ℕ
scene_number scene = unkilled_number scene.design.now (control_of_scene scene)

abbrev pub scene_leaving : Scene → ℕ → Option Flight → Option Flight
scene_leaving scene = leaving scene.design.now scene.cards.now scene.inputs.now scene.state.now (control_of_scene scene)

-- what enters stage 1, and the flights after the cycle from a stage on, to which this comes from the stage before
abbrev pub scene_entering : Scene → Image → Option Flight
scene_entering scene image = entering scene.design.now image scene.state.now (control_of_scene scene)

abbrev pub scene_flights : Scene → ℕ → Option Flight → List (Option Flight) → List (Option Flight)
scene_flights scene = flights_from scene.design.now scene.cards.now scene.inputs.now scene.state.now (control_of_scene scene)

-- what stands in a stage fits, and so do the flights from a stage on
abbrev pub StageFits : Scene → ℕ → Option Flight → Type 0
StageFits scene stage flight = IfSome flight (FlightFits scene.design.now stage)

abbrev pub StagesFit : Scene → ℕ → List (Option Flight) → Type 0
StagesFit scene stage flights = FlightsFit scene.design.now stage flights

-- each write fits what it writes to
abbrev pub WritesHereFit : Scene → List Entry → Type 0
WritesHereFit scene entries = EntriesFit scene.design.now entries

-- what the whole cycle does: the writes, the samples and the passed stages, the numbers that aren't killed and the next number, the
-- flights and the state after it, and the row that it shows
abbrev pub entries_of_scene : Scene → List Entry
entries_of_scene scene = cycle_entries scene.design.now scene.cards.now scene.inputs.now scene.state.now (control_of_scene scene)

abbrev pub samples_of_scene : Scene → List Sample
samples_of_scene scene = cycle_samples scene.design.now scene.cards.now scene.inputs.now scene.state.now (control_of_scene scene)

abbrev pub passes_of_scene : Scene → List Pass
passes_of_scene scene = cycle_passes scene.design.now scene.state.now (control_of_scene scene)

abbrev pub numbers_of_scene : Scene → List ℕ
numbers_of_scene scene = unkilled_numbers scene.design.now scene.state.now (control_of_scene scene)

abbrev pub number_after_scene : Scene → ℕ
number_after_scene scene = next_number scene.design.now scene.state.now (control_of_scene scene)

abbrev pub flights_after_scene : Scene → Image → List (Option Flight)
flights_after_scene scene image = cycle_flights scene.design.now scene.cards.now image scene.inputs.now scene.state.now (control_of_scene scene)

abbrev pub state_after_scene : Scene → Image → State
state_after_scene scene image = after_control scene.design.now scene.cards.now image scene.inputs.now scene.state.now (control_of_scene scene)

abbrev pub row_of_scene : Scene → Row
row_of_scene scene = control_row scene.design.now scene.cards.now scene.inputs.now scene.state.now (control_of_scene scene)
