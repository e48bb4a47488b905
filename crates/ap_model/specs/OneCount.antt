-- The same machine told with one count for the whole pipeline. A cycle is stalled as a whole or not at all; `held` counts the stalled
-- cycles since the last one that wasn't. No flight has a count of its own: what its record keeps is 0 and isn't looked at.
use Rattle.std.specs.Prelude.{◌≡◌, ℕ, zero, suc, ◌+◌, ◌||◌, ◌&&◌, nat_lt, max, if◌then◌else◌, Bool, true, false, List, [], ◌∷◌, map, Option, option_map, option_and_then}
use Rattle.std.specs.Option.{option_map_or}
use Rattle.ap_bits.specs.declared.card.Card.{Card}
use Rattle.ap_desc.specs.declared.design.Design.{Design}
use Rattle.ap_image.specs.declared.image.Image.{Image}
use Rattle.ap_image.specs.declared.trace.Trace.{Trace}
use Rattle.ap_image.specs.declared.trace.TraceLine.{TraceLine}
use Rattle.ap_image.specs.declared.row.Row.{Row}
use Rattle.ap_model.specs.declared.state.Flight.{Flight}
use Rattle.ap_model.specs.declared.state.State.{State}
use Rattle.ap_model.specs.Cycles.{CycleControl, after_control, flight_at, flight_effect, inputs_at, over}
use Rattle.ap_model.specs.ShownRows.{control_row, row}
use Rattle.ap_model.specs.Stalls.{has_memory_line, need}
use Rattle.ap_model.specs.States.{start}

-- a state with the stalled cycles since the last one that wasn't
pub record Counted : Type 0 where
  pub held : ℕ
  pub state : State

-- the greatest latency of a unit that an occupied stage's instruction uses in that stage, or 1, over the stages from this one on
abbrev pub greatest_need : Design → ℕ → List (Option Flight) → ℕ
greatest_need design stage [] = 1
greatest_need design stage (flight ∷ flights) = max (option_map_or (λ (f : Flight). need design stage f.word) flight 1) (greatest_need design (stage + 1) flights)

-- an occupied stage's instruction has a memory line in that stage
abbrev pub is_memory_used : Design → ℕ → List (Option Flight) → Bool
is_memory_used design stage [] = false
is_memory_used design stage (flight ∷ flights) = option_map_or (λ (f : Flight). has_memory_line design stage f.word) flight false || is_memory_used design (stage + 1) flights

-- the cycle is stalled
abbrev pub is_stalled : Design → TraceLine → Counted → Bool
is_stalled design inputs counted = nat_lt (counted.held + 1) (greatest_need design 1 counted.state.flights) || (inputs.wait && is_memory_used design 1 counted.state.flights)

-- what decides on a cycle that isn't stalled: no stage is held, and the transfer that the flight in the transfer stage takes
abbrev pub free_control : Design → List Card → TraceLine → State → CycleControl
free_control design cards inputs state = record {
  held = λ stage. false;
  taken = option_and_then (λ flight. (flight_effect design cards inputs state design.branch flight).target) (flight_at state design.branch);
}

-- one cycle: a stalled one adds 1 to the count and changes nothing else
unfoldable pub counted_cycle : Design → List Card → Image → TraceLine → Counted → Counted
counted_cycle design cards image inputs counted =
    if is_stalled design inputs counted then record counted { held = counted.held + 1 }
    else record { held = 0; state = after_control design cards image inputs counted.state (free_control design cards inputs counted.state) }

-- the state after c cycles
unfoldable pub counted_over : Design → List Card → Image → Trace → ℕ → Counted
counted_over design cards image trace zero = record { held = 0; state = start design image }
counted_over design cards image trace (suc c) = counted_cycle design cards image (inputs_at design trace c) (counted_over design cards image trace c)

-- the row of a cycle: a stalled one shows nothing else
unfoldable pub counted_row_of : Design → List Card → TraceLine → Counted → Row
counted_row_of design cards inputs counted =
    if is_stalled design inputs counted then record { stall = true; kill = false; writes = [] }
    else control_row design cards inputs counted.state (free_control design cards inputs counted.state)

abbrev pub counted_row : Design → List Card → Image → Trace → ℕ → Row
counted_row design cards image trace j = counted_row_of design cards (inputs_at design trace j) (counted_over design cards image trace j)

-- a flight that has waited for so many cycles
abbrev pub waiting : ℕ → Flight → Flight
waiting held flight = record flight { waited = held }

-- the state in which each flight has waited for as many cycles as the count says
abbrev pub as_state : Counted → State
as_state counted = record counted.state { flights = map (option_map (waiting counted.held)) counted.state.flights }

-- both machines have the same states, and show the same rows
pub record IsSameMachine (design : Design) (cards : List Card) (image : Image) (trace : Trace) : Type 0 where
  pub states : (c : ℕ) → over design cards image trace c ≡ as_state (counted_over design cards image trace c)
  pub rows : (j : ℕ) → row design cards image trace j ≡ counted_row design cards image trace j
