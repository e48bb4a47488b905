-- Units that take several cycles: which word asks one, what it asks, and that a stage is busy where one isn't done.
use Rattle.std.specs.Prelude.{◌≡◌, ℕ, ◌+◌, ◌==◌, ◌&&◌, nat_lt, not, if◌then◌else◌, Bool, true, false, List, filter_map, length, Option, Some, None, slice_get, slice_index}
use Rattle.std.specs.List.{list_any, range_with_len}
use Rattle.std.specs.Option.{option_map_or}
use Rattle.ap_bits.specs.declared.card.Card.{Card}
use Rattle.ap_desc.specs.Designs.{width_at}
use Rattle.ap_desc.specs.StageFaults.{is_slow}
use Rattle.ap_desc.specs.declared.design.Act.{Act}
use Rattle.ap_desc.specs.declared.design.Act.TheVariants as act
use Rattle.ap_desc.specs.declared.design.Arg.{Arg}
use Rattle.ap_desc.specs.declared.design.Design.{Design}
use Rattle.ap_desc.specs.declared.design.Instr.{Instr}
use Rattle.ap_desc.specs.declared.design.Micro.{Micro}
use Rattle.ap_desc.specs.declared.design.Unit.{Unit as Resource}
use Rattle.ap_image.specs.declared.trace.TraceLine.{TraceLine}
use Rattle.ap_model.specs.declared.state.Flight.{Flight}
use Rattle.ap_model.specs.declared.storage.Storages.{Storages}
use Rattle.ap_model.specs.Fire.{arg_value, instr_of, lines_in, locals_after}
use Rattle.ap_model.specs.FlightLocals.{HasLocals}
use Rattle.ap_model.specs.LineForms.{ReadsLines, flight_sight}
use Rattle.ap_model.specs.Stalls.{need}

-- the line uses the unit
abbrev pub is_use_of : ℕ → Act → Bool
is_use_of unit (act.Compute other op a b) = other == unit
is_use_of unit _ = false

-- how many cycles a unit takes
abbrev pub latency_of : Design → ℕ → ℕ
latency_of design unit = width_at (λ (u : Resource). u.latency) design.units unit

-- the word asks the unit in the stage: its instruction uses the unit there, and the unit takes more than one cycle
unfoldable pub asks : Design → ℕ → ℕ → ℕ → Bool
asks design stage word unit = nat_lt 1 (latency_of design unit) && option_map_or (λ (i : Instr). list_any (λ (m : Micro). is_use_of unit m.act) (lines_in stage i)) (instr_of design word) false

-- some word asks the unit in the stage
abbrev pub IsUnitOf : Design → ℕ → ℕ → Type 0
IsUnitOf design stage unit = (word : ℕ) × (asks design stage word unit ≡ true)

-- what a unit is asked: its operation and its two operands
pub record Ask : Type 0 where
  pub sel : ℕ
  pub a : ℕ
  pub b : ℕ

-- what a line asks of a unit, where value gives the value of each operand
abbrev pub act_ask : (Arg → ℕ) → ℕ → Act → Option Ask
act_ask value unit (act.Compute other op a b) = if other == unit then Some (record { sel = op; a = value a; b = value b }) else None
act_ask value unit _ = None

-- what the one line that uses a unit asks of it, among these
abbrev pub lines_ask : (Arg → ℕ) → ℕ → List Micro → Option Ask
lines_ask value unit micros = slice_get (filter_map (λ (m : Micro). act_ask value unit m.act) micros) 0

abbrev pub instr_ask : Design → List Card → TraceLine → Storages → ℕ → Flight → ℕ → Option Instr → Option Ask
instr_ask design cards inputs storages stage flight unit None = None
instr_ask design cards inputs storages stage flight unit (Some instr) =
    let sight = flight_sight design cards inputs storages flight instr in
    lines_ask (arg_value sight (locals_after sight flight.locals (lines_in stage instr))) unit (lines_in stage instr)

-- what a flight asks of a unit in a stage
unfoldable pub unit_ask : Design → List Card → TraceLine → Storages → ℕ → Flight → ℕ → Option Ask
unit_ask design cards inputs storages stage flight unit = instr_ask design cards inputs storages stage flight unit (instr_of design flight.word)

-- what a unit is asked doesn't look at the inputs of the cycle
abbrev pub StableAsks : Design → List Card → Type 0
StableAsks design cards = (inputs other : TraceLine) (storages : Storages) (stage : ℕ) (flight : Flight) (unit : ℕ) → HasLocals design stage flight → asks design stage flight.word unit ≡ true
    → unit_ask design cards inputs storages stage flight unit ≡ unit_ask design cards other storages stage flight unit

-- the line uses no unit that takes more than one cycle
abbrev pub is_quick : Design → Act → Bool
is_quick design a = not (is_slow design a)

-- with values that meet the equations of the quick lines, each unit is asked what the flight asks of it
abbrev pub AsksAreRight : Design → List Card → Type 0
AsksAreRight design cards = (inputs : TraceLine) (storages : Storages) (stage : ℕ) (flight : Flight) (instr : Instr) (value : Arg → ℕ) (unit : ℕ) → instr_of design flight.word ≡ Some instr → HasLocals design stage flight
    → ReadsLines design cards inputs storages stage flight instr (is_quick design) (slice_index flight.locals) value → asks design stage flight.word unit ≡ true
    → lines_ask value unit (lines_in stage instr) ≡ unit_ask design cards inputs storages stage flight unit

-- a unit that the flight asks has been asked for as long as it has waited, and isn't done
abbrev pub is_busy_with : Design → ℕ → Flight → ℕ → Bool
is_busy_with design stage flight unit = asks design stage flight.word unit && nat_lt (flight.waited + 1) (latency_of design unit)

-- a flight needs its stage for another cycle exactly where one of its units isn't done
abbrev pub NeedsItsUnits : Design → Type 0
NeedsItsUnits design = (stage : ℕ) (flight : Flight) → nat_lt (flight.waited + 1) (need design stage flight.word) ≡ list_any (is_busy_with design stage flight) (range_with_len 0 (length design.units))
