-- A circuit that meets the border: the two-stage processor that sets a register, by its registers and the values in its cycles.
use Rattle.std.specs.Prelude.{ℕ, zero, suc, ◌+◌, ◌/◌, ◌%◌, ◌^◌, ◌&&◌, not, if◌then◌else◌, Bool, true, false, [], ◌∷◌, Some, None, slice_index}
use Rattle.ap_image.specs.declared.image.Image.{Image}
use Rattle.ap_model.specs.declared.storage.WritePort.TheVariants as port
use Rattle.ap_model.specs.Examples.{set_instr, set_nop}
use Rattle.ap_model.specs.Fire.{is_match}
use Rattle.ap_model.specs.PortForms.{Writing}
use Rattle.ap_cycle.specs.Signals.{Signals}

-- what the circuit's registers hold: the pc; of stage 1 whether it has a word, the word and its address; and R
pub record SmallState : Type 0 where
  pub pc : ℕ
  pub valid : Bool
  pub word : ℕ
  pub place : ℕ
  pub reg : ℕ

-- the word in stage 1 is SET and not NOP: it sets the register, to its seven low bits
abbrev pub sets : SmallState → Bool
sets state = state.valid && not (is_match state.word set_nop) && is_match state.word set_instr

abbrev pub set_value : SmallState → ℕ
set_value state = (state.word / 2 ^ 0) % 2 ^ 7

-- the edge after a cycle
abbrev pub small_next : Image → SmallState → SmallState
small_next image state = record {
  pc = (state.pc + 1) % 2 ^ 4;
  valid = true;
  word = slice_index image.code state.pc;
  place = state.pc;
  reg = if sets state then set_value state else state.reg;
}

-- the state before cycle j, from the reset on
abbrev pub small_state : Image → ℕ → SmallState
small_state image zero = record { pc = 0; valid = false; word = 0; place = 0; reg = 0 }
small_state image (suc j) = small_next image (small_state image j)

-- the write port of the register has the value of stage 1, where its word sets it
abbrev pub small_write : SmallState → Writing
small_write state (port.Register zero) = if sets state then Some (record { port = port.Register 0; at = 0; value = set_value state }) else None
small_write state _ = None

-- of stage 0 and stage 1
abbrev pub by_stage : {X : Type 0} → X → X → ℕ → X
by_stage first second zero = first
by_stage first second (suc stage) = second

-- the signals of a cycle
abbrev pub small_signals : Image → SmallState → Signals
small_signals image state = record {
  pc = state.pc;
  valid = by_stage true state.valid;
  word = by_stage (slice_index image.code state.pc) state.word;
  place = by_stage state.pc state.place;
  local = λ stage i. 0;
  age = λ unit. 0;
  storages = record { regs = state.reg ∷ []; files = []; mems = image.mems };
  busy = λ stage. false;
  hold = λ stage. false;
  taken = None;
  write = small_write state;
  left = λ stage i. 0;
  ask = λ unit. record { sel = 0; a = 0; b = 0 };
}

-- the signals of all cycles
abbrev pub small_circuit : Image → ℕ → Signals
small_circuit image j = small_signals image (small_state image j)
