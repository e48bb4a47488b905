-- What is known of held stages, whatever stages a busy one holds.
use Rattle.std.specs.Prelude.{◌≡◌, ℕ, ◌+◌, ◌≤◌, Bool, true, false, List, Option, None, option_map, slice_index_or}
use Rattle.ap_desc.specs.declared.design.Design.{Design}
use Rattle.ap_model.specs.declared.state.State.{State}
use Rattle.ap_model.specs.Cycles.{CycleControl, staying}
use Rattle.ap_model.specs.Stalls.{is_held_stage}

-- A busy stage is held; the list says of each stage from 1 on whether it is busy. What is held is held from stage 0 on. And where
-- stage 0 is held, so is the transfer's stage: no transfer is taken while nothing can be fetched.
pub record HoldsFromZero (design : Design) (busy : List Bool) : Type 0 where
  pub busy_held : (stage : ℕ) → slice_index_or busy stage false ≡ true → is_held_stage design busy (stage + 1) ≡ true
  pub below : (stage earlier : ℕ) → earlier ≤ stage → is_held_stage design busy stage ≡ true → is_held_stage design busy earlier ≡ true
  pub transfer : is_held_stage design busy 0 ≡ true → is_held_stage design busy design.branch ≡ true

-- all stages are held
abbrev pub all_held : Option ℕ → CycleControl
all_held taken = record { held = λ stage. true; taken = taken }

-- after a cycle in which all are, what is stored is as before, and each flight stands where it stood
pub record HoldsAll (before after : State) : Type 0 where
  pub storages : after.storages ≡ before.storages
  pub flights : (i : ℕ) → slice_index_or after.flights i None ≡ option_map staying (slice_index_or before.flights i None)
