-- The two-stage machine of the first form: a pc, one register, and one stage that holds a word or nothing. Stage 0 fetches the
-- word at the pc; stage 1 performs the word's instruction. These are the project's own rules of overlapped execution, for the
-- form alone: nothing of it waits or transfers.
use Rattle.std.specs.Prelude.{ℕ, zero, suc, ◌+◌, ◌%◌, ◌^◌, ◌==◌, if◌then◌else◌, List, [], ◌∷◌, Option, Some, None, false, slice_index}
use Rattle.ap_image.specs.declared.image.Image.{Image}
use Rattle.ap_image.specs.declared.trace.Trace.{Trace}
use Rattle.ap_image.specs.declared.row.Row.{Row}
use Rattle.ap_image.specs.declared.row.Write.{Write}
use Rattle.ap_top.specs.declared.form.Form.{Form}
use Rattle.ap_top.specs.Additions.{Operation, result_of}

-- what the machine holds between two cycles
pub record State : Type 0 where
  pub pc : ℕ
  pub register : ℕ
  pub stage : Option ℕ

-- the pc starts at 0, the register at its reset value, the stage empty
abbrev pub start : Form → State
start form = record { pc = 0; register = form.start; stage = None }

-- the sum that the adding instruction makes: what the unit's operation gives
abbrev pub sum_of : Operation → Form → ℕ → ℕ
sum_of operation form register = result_of operation form.width register form.constant

-- what the flight in the stage writes to the register: the adding instruction its sum, any other word nothing
abbrev pub fire : Operation → Form → ℕ → Option ℕ → Option ℕ
fire operation form register None = None
fire operation form register (Some word) = if word == form.code then Some (sum_of operation form register) else None

-- a register after a cycle
abbrev pub written : ℕ → Option ℕ → ℕ
written register None = register
written register (Some value) = value

-- one cycle: the flight fires on the register as it was and leaves, the fetched word enters the stage, the pc goes on
abbrev pub cycle : Operation → Form → Image → State → State
cycle operation form image state = record {
  pc = (state.pc + 1) % 2 ^ form.address;
  register = written state.register (fire operation form state.register state.stage);
  stage = Some (slice_index image.code state.pc);
}

-- the state after c cycles; no line of the trace matters, since nothing waits and nothing is read from outside
abbrev pub over : Operation → Form → Image → Trace → ℕ → State
over operation form image trace zero = start form
over operation form image trace (suc c) = cycle operation form image (over operation form image trace c)

-- the writes of a row: those of the one write group
abbrev pub writes_of : Option ℕ → List Write
writes_of None = []
writes_of (Some value) = record { group = 0; index = None; value = value } ∷ []

-- the row of cycle j
abbrev pub row : Operation → Form → Image → Trace → ℕ → Row
row operation form image trace j = let state = over operation form image trace j in record { stall = false; kill = false; writes = writes_of (fire operation form state.register state.stage) }
