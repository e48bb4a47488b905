-- What a stage does, line by line. A circuit computes a stage's lines all at once, each from values that the others give. Such
-- values meet one equation for each line, and then they are the machine's.
use Rattle.std.specs.Prelude.{◌≡◌, ℕ, ◌+◌, ◌<◌, Contains, true, Bool, List, [], filter_map, length, Some, slice_get, slice_index}
use Rattle.std.specs.List.{AllByRecursion as Each}
use Rattle.ap_bits.specs.declared.card.Card.{Card}
use Rattle.ap_desc.specs.Chains.{maker_in, operands_of}
use Rattle.ap_desc.specs.declared.design.Act.{Act}
use Rattle.ap_desc.specs.declared.design.Arg.{Arg}
use Rattle.ap_desc.specs.declared.design.Arg.TheVariants as arg
use Rattle.ap_desc.specs.declared.design.Design.{Design}
use Rattle.ap_desc.specs.declared.design.Instr.{Instr}
use Rattle.ap_desc.specs.declared.design.Micro.{Micro}
use Rattle.ap_image.specs.declared.trace.TraceLine.{TraceLine}
use Rattle.ap_model.specs.declared.state.Flight.{Flight}
use Rattle.ap_model.specs.declared.state.StageEffect.{StageEffect}
use Rattle.ap_model.specs.declared.storage.Storages.{Storages}
use Rattle.ap_model.specs.declared.storage.WritePort.{WritePort}
use Rattle.ap_model.specs.Cycles.{port_input}
use Rattle.ap_model.specs.Fire.{Sight, act_value, arg_value, fire, instr_of, lines_in, link_of, target_of}
use Rattle.ap_model.specs.FlightLocals.{HasLocals, is_live}
use Rattle.ap_model.specs.PortForms.{line_write, write_through}
use Rattle.ap_model.specs.Ports.{is_used_in}

-- what the lines of a flight's instruction look at
abbrev pub flight_sight : Design → List Card → TraceLine → Storages → Flight → Instr → Sight
flight_sight design cards inputs storages flight instr = record { design = design; cards = cards; instr = instr; word = flight.word; place = flight.place; storages = storages; input = port_input inputs }

-- what a flight does in a stage on these storages
abbrev pub fired : Design → List Card → TraceLine → Storages → ℕ → Flight → StageEffect
fired design cards inputs storages stage flight = fire design cards stage flight.place flight.word flight.locals storages (port_input inputs)

-- these locals are those after the stage: those from before stay, and each new one is what its line gives, which looks at the locals
-- as they are after the stage
pub record LocalsByLine (design : Design) (cards : List Card) (inputs : TraceLine) (storages : Storages) (stage : ℕ) (flight : Flight) (instr : Instr) (after : List ℕ) : Type 0 where
  pub old : (i : ℕ) → i < length flight.locals → slice_index after i ≡ slice_index flight.locals i
  pub new : (n : ℕ) (m : Micro) → maker_in instr stage (arg.Local n) ≡ Some m
      → Some (slice_index after n) ≡ act_value (flight_sight design cards inputs storages flight instr) (arg_value (flight_sight design cards inputs storages flight instr) after) m.line m.act

-- A value for each operand meets the equations of a stage's lines, as far as these count. Fields, the place and the address after
-- the slots are the flight's; live locals are these; a new local is what its line gives with these values.
pub record ReadsLines (design : Design) (cards : List Card) (inputs : TraceLine) (storages : Storages) (stage : ℕ) (flight : Flight) (instr : Instr) (counts : Act → Bool) (local : ℕ → ℕ) (value : Arg → ℕ) : Type 0 where
  pub field : (i : ℕ) → value (arg.Field i) ≡ arg_value (flight_sight design cards inputs storages flight instr) [] (arg.Field i)
  pub pc : value arg.Pc ≡ flight.place
  pub link : value arg.Link ≡ link_of design flight.place
  pub old : (i : ℕ) → is_live design flight.word stage i ≡ true → value (arg.Local i) ≡ local i
  pub new : (n : ℕ) (m : Micro) → maker_in instr stage (arg.Local n) ≡ Some m → counts m.act ≡ true → Some (value (arg.Local n)) ≡ act_value (flight_sight design cards inputs storages flight instr) value m.line m.act

-- The values are the machine's: at each operand of a line of the stage, at each local that is made in it, and at each that is live
-- in the next; and with them the lines write and transfer as the flight does.
pub record ReadsRight (design : Design) (cards : List Card) (inputs : TraceLine) (storages : Storages) (stage : ℕ) (flight : Flight) (instr : Instr) (value : Arg → ℕ) (effect : StageEffect) : Type 0 where
  pub operands : (m : Micro) → Contains instr.micros m → m.stage ≡ stage → Each (λ x. value x ≡ arg_value (flight_sight design cards inputs storages flight instr) effect.locals x) (operands_of m.act)
  pub made : (n : ℕ) (m : Micro) → maker_in instr stage (arg.Local n) ≡ Some m → value (arg.Local n) ≡ slice_index effect.locals n
  pub left : (i : ℕ) → is_live design flight.word (stage + 1) i ≡ true → value (arg.Local i) ≡ slice_index effect.locals i
  pub writes : (p : WritePort) → is_used_in design stage p ≡ true → line_write value p (lines_in stage instr) ≡ write_through p effect.writes
  pub target : slice_get (filter_map (λ (m : Micro). target_of value m.act) (lines_in stage instr)) 0 ≡ effect.target

-- what a stage does, local by local
abbrev pub FiresByLine : Design → List Card → Type 0
FiresByLine design cards = (inputs : TraceLine) (storages : Storages) (stage : ℕ) (flight : Flight) (instr : Instr) → instr_of design flight.word ≡ Some instr → HasLocals design stage flight
    → LocalsByLine design cards inputs storages stage flight instr (fired design cards inputs storages stage flight).locals

-- values that meet the equations of all lines are the machine's
abbrev pub ReadingsAreRight : Design → List Card → Type 0
ReadingsAreRight design cards = (inputs : TraceLine) (storages : Storages) (stage : ℕ) (flight : Flight) (instr : Instr) (value : Arg → ℕ) → instr_of design flight.word ≡ Some instr → HasLocals design stage flight
    → ReadsLines design cards inputs storages stage flight instr (λ a. true) (slice_index flight.locals) value → ReadsRight design cards inputs storages stage flight instr value (fired design cards inputs storages stage flight)
