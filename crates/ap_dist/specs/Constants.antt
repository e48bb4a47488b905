-- The constants among an instruction's locals.
use Rattle.std.specs.Prelude.{◌≡◌, ℕ, ◌<◌, ◌≤◌, List, length, Option, Some, None, option_and_then, slice_get}
use Rattle.ap_desc.specs.Chains.{makers}
use Rattle.ap_desc.specs.declared.design.Instr.{Instr}
use Rattle.ap_dist.specs.Accesses.{constant_of}

-- for each local the value of the constant that it is, if it is one
pub record HasConstants (instr : Instr) (values : List (Option ℕ)) : Type 0 where
  pub size : length values ≡ 64
  pub each : (local : ℕ) → local < 64 → slice_get values local ≡ Some (option_and_then constant_of (slice_get (makers instr) local))
  pub beyond : (local : ℕ) → 64 ≤ local → slice_get (makers instr) local ≡ None
