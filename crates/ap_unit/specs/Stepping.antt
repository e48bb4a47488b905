-- The circuit of a unit that makes a step a cycle: its ports and registers with what drives the outputs, and the nets of its step.
use Rattle.std.specs.Prelude.{◌≡◌, ℕ, ◌+◌, ◌%◌, ◌^◌, ◌<◌, ◌≤◌, ◌==◌, if◌then◌else◌, List, [], ◌∷◌, ◌++◌, codes}
use Rattle.ap_net.specs.declared.cell.Wire.{Wire}
use Rattle.ap_net.specs.declared.cell.TwoOp.TheVariants.{And, Ltu}
use Rattle.ap_net.specs.declared.cell.Cell.TheVariants as cell
use Rattle.ap_net.specs.declared.net.Role.TheVariants as role
use Rattle.ap_net.specs.declared.net.ModuleNet.{ModuleNet}
use Rattle.ap_net.specs.declared.net.Assign.{Assign}
use Rattle.ap_net.specs.declared.net.Next.{Next}
use Rattle.ap_net.specs.Names.{numbered}
use Rattle.ap_net.specs.Cells.{IsNet}
use Rattle.ap_net.specs.Draft.{Draft, SettlesDraft}
use Rattle.ap_net.specs.Making.{Makes}
use Rattle.ap_unit.specs.declared.stepper.Pair.{Pair}
use Rattle.ap_unit.specs.declared.stepper.Ports.{Ports}
use Rattle.ap_unit.specs.declared.stepper.Stepper.{Stepper}
use Rattle.ap_unit.specs.Methods.{State, Method}
use Rattle.ap_unit.specs.Pieces.{input_net, output_net}

abbrev pub wire : ℕ → ℕ → Wire
wire number width = record { number = number; width = width }

-- a register that is 0 after reset, and a wire without a name of its own
abbrev pub register_net : List ℕ → ℕ → ModuleNet
register_net name width = record { name = name; width = width; role = role.Register 0 }

abbrev pub fresh_net : ℕ → ℕ → ModuleNet
fresh_net k width = record { name = numbered k; width = width; role = role.Plain }

-- the ports at w bits, in their order
abbrev pub step_ports : ℕ → List ModuleNet
step_ports w = input_net (codes "sel") 1 ∷ input_net (codes "a") w ∷ input_net (codes "b") w ∷ input_net (codes "go") 1 ∷ input_net (codes "adv") 1
    ∷ output_net (codes "busy") 1 ∷ output_net (codes "y") w ∷ []

-- and three registers: q0, of k bits, counts steps, and q1 and q2 hold the state's high and low number
abbrev pub step_registers : ℕ → ℕ → List ModuleNet
step_registers w k = register_net (codes "q0") k ∷ register_net (codes "q1") w ∷ register_net (codes "q2") w ∷ []

abbrev pub step_nets : ℕ → ℕ → List ModuleNet
step_nets w k = step_ports w ++ step_registers w k ++ fresh_net 0 k ∷ fresh_net 1 1 ∷ []

-- n0 is the number of steps that are due, and n1 says whether some are left
abbrev pub due_assign : ℕ → ℕ → Assign
due_assign w k = record { to = wire 10 k; cell = cell.Const w }

abbrev pub left_assign : ℕ → Assign
left_assign k = record { to = wire 11 1; cell = cell.Two Ltu (wire 7 k) (wire 10 k) }

-- busy is that while the unit is asked, and y is the register that sel chooses
abbrev pub busy_assign : Assign
busy_assign = record { to = wire 5 1; cell = cell.Two And (wire 3 1) (wire 11 1) }

abbrev pub shown_assign : ℕ → Assign
shown_assign w = record { to = wire 6 w; cell = cell.Choose (wire 0 1) (wire 8 w) (wire 9 w) }

-- the draft as it grows: the ports, the counter, the registers of the state, whether steps are left, and what drives the outputs
abbrev pub with_ports : List ℕ → ℕ → Draft
with_ports name w = record { name = name; nets = step_ports w; assigns = []; nexts = []; instances = [] }

abbrev pub with_count : List ℕ → ℕ → ℕ → Draft
with_count name w k = record (with_ports name w) { nets = step_ports w ++ register_net (codes "q0") k ∷ [] }

abbrev pub with_registers : List ℕ → ℕ → ℕ → Draft
with_registers name w k = record (with_ports name w) { nets = step_ports w ++ step_registers w k }

abbrev pub with_limit : List ℕ → ℕ → ℕ → Draft
with_limit name w k = record (with_ports name w) { nets = step_nets w k; assigns = due_assign w k ∷ left_assign k ∷ [] }

abbrev pub with_stepper : List ℕ → ℕ → ℕ → Draft
with_stepper name w k = record (with_ports name w) { nets = step_nets w k; assigns = due_assign w k ∷ left_assign k ∷ busy_assign ∷ shown_assign w ∷ [] }

-- its ports, and the nets that a kind may use
abbrev pub port_wires : ℕ → Ports
port_wires w = record { sel = wire 0 1; a = wire 1 w; b = wire 2 w; go = wire 3 1; adv = wire 4 1; busy = wire 5 1; y = wire 6 w }

abbrev pub step_wires : ℕ → ℕ → Stepper
step_wires w k = record { a = wire 1 w; b = wire 2 w; go = wire 3 1; adv = wire 4 1; count = wire 7 k; running = wire 11 1; held = record { high = wire 8 w; low = wire 9 w } }

-- the two nets are declared, and have w bits
pub record IsPair (nets : List ModuleNet) (w : ℕ) (pair : Pair) : Type 0 where
  pub high : IsNet nets pair.high
  pub low : IsNet nets pair.low
  pub high_width : pair.high.width ≡ w
  pub low_width : pair.low.width ≡ w

-- the nets of a unit are declared, with their widths
pub record AreStepNets (nets : List ModuleNet) (unit : Stepper) : Type 0 where
  pub a : IsNet nets unit.a
  pub b : IsNet nets unit.b
  pub go : IsNet nets unit.go
  pub adv : IsNet nets unit.adv
  pub count : IsNet nets unit.count
  pub running : IsNet nets unit.running
  pub held : IsPair nets unit.a.width unit.held
  pub b_width : unit.b.width ≡ unit.a.width
  pub go_width : unit.go.width ≡ 1
  pub adv_width : unit.adv.width ≡ 1
  pub running_width : unit.running.width ≡ 1

-- The draft holds the beginning of a unit, whose counter can count to the width of the operands, and fresh wires.
pub record HoldsStepper (d : Draft) (unit : Stepper) : Type 0 where
  pub wires : unit ≡ step_wires unit.a.width unit.count.width
  pub nets : AreStepNets d.nets unit
  pub low : 1 ≤ unit.a.width
  pub high : unit.a.width ≤ 64
  pub room : unit.a.width < 2 ^ unit.count.width
  pub some : 1 ≤ unit.count.width
  pub few : unit.count.width ≤ 64
  pub made : Makes (with_stepper d.name unit.a.width unit.count.width) d

-- the state that two nets have, where read gives the value of each net by its number
abbrev pub state_of : (ℕ → ℕ) → Pair → State
state_of read nets = record { high = read nets.high.number; low = read nets.low.number }

-- every solution of the new draft is one of the old draft, and has this
abbrev pub Gives : Draft → Draft → ((ℕ → ℕ) → Type 0) → Type 0
Gives old new Fact = (read : ℕ → ℕ) → SettlesDraft new read → SettlesDraft old read × Fact read

-- of two states the first where the bit is 1
abbrev pub choice_of : ℕ → State → State → State
choice_of bit first other = if bit == 1 then first else other

-- the state before a step: the first one while no step was made, else what the registers hold
abbrev pub state_before : Stepper → (ℕ → ℕ) → State → State
state_before unit read first = if read unit.count.number == 0 then first else state_of read unit.held

-- in every solution the nets have what a step of the method makes of the state before it
abbrev pub MakesStep : Draft → Stepper → Method → Pair → Type 0
MakesStep d unit method next = (read : ℕ → ℕ) → SettlesDraft d read
    → state_of read next ≡ method.step (read unit.a.number) (read unit.b.number) (state_before unit read (method.start (read unit.a.number) (read unit.b.number)))

-- what the state's registers take: what a step made while steps are left, else what they hold
abbrev pub kept_state : Stepper → (ℕ → ℕ) → Pair → State
kept_state unit read next = choice_of (read unit.running.number) (state_of read next) (state_of read unit.held)

-- one more while steps are left
abbrev pub more_count : Stepper → (ℕ → ℕ) → ℕ
more_count unit read = if read unit.running.number == 1 then (read unit.count.number + 1) % 2 ^ unit.count.width else read unit.count.number

-- a count, but 0 after a cycle in which the result is taken or the unit isn't asked
abbrev pub count_unless : Stepper → (ℕ → ℕ) → ℕ → ℕ
count_unless unit read count = if read unit.adv.number == 1 then 0 else (if read unit.go.number == 1 then count else 0)

-- what the counter takes
abbrev pub next_count : Stepper → (ℕ → ℕ) → ℕ
next_count unit read = count_unless unit read (more_count unit read)

-- what the three registers take
abbrev pub step_nexts : Stepper → Wire → Pair → List Next
step_nexts unit count state = record { register = unit.count; from = count } ∷ record { register = unit.held.high; from = state.high } ∷ record { register = unit.held.low; from = state.low } ∷ []
