-- What a processor's circuit has in one cycle, by what it is for and not by the nets that carry it. Stage 0 is that of the word being
-- fetched.
use Rattle.std.specs.Prelude.{ℕ, ◌||◌, if◌then◌else◌, Bool, false, Option, is_some}
use Rattle.ap_desc.specs.declared.design.Design.{Design}
use Rattle.ap_image.specs.declared.row.Row.{Row}
use Rattle.ap_model.specs.declared.storage.Storages.{Storages}
use Rattle.ap_model.specs.Cycles.{CycleControl, is_killed}
use Rattle.ap_model.specs.PortForms.{Writing, shown_ports}
use Rattle.ap_model.specs.Ports.{row_ports}
use Rattle.ap_model.specs.UnitUse.{Ask}

-- the first seven are stored at the start of the cycle, the rest is made in it
pub record Signals : Type 0 where
  -- the address that is fetched
  pub pc : ℕ
  -- whether a word is in a stage, the word, and its address
  pub valid : ℕ → Bool
  pub word : ℕ → ℕ
  pub place : ℕ → ℕ
  -- what a stage's slots hold of the locals of its instruction, by stage and local
  pub local : ℕ → ℕ → ℕ
  -- for how many cycles a unit has been asked
  pub age : ℕ → ℕ
  -- registers, files, memories
  pub storages : Storages
  -- whether a stage is busy, and whether it is held
  pub busy : ℕ → Bool
  pub hold : ℕ → Bool
  -- the target of the transfer that is taken
  pub taken : Option ℕ
  -- the write that goes through a port
  pub write : Writing
  -- what leaves a stage of the locals of its instruction, by stage and local
  pub left : ℕ → ℕ → ℕ
  -- what a unit is asked
  pub ask : ℕ → Ask

-- what decides on the cycle
abbrev pub control : Signals → CycleControl
control signals = record { held = signals.hold; taken = signals.taken }

-- the stage's word doesn't fire: the stage is held, or the word is killed
abbrev pub is_stopped : Design → Signals → ℕ → Bool
is_stopped design signals stage = signals.hold stage || is_killed design (control signals) stage

-- the stage's word goes on to the next stage
abbrev pub goes_on : Design → Signals → ℕ → Bool
goes_on design signals stage = if is_stopped design signals stage then false else signals.valid stage

-- the row of the cycle
abbrev pub shown_row : Design → Signals → Row
shown_row design signals = record { stall = signals.hold 0; kill = is_some signals.taken; writes = shown_ports signals.write 0 (row_ports design) }
