-- What the registers of a stage give of the border between a circuit's cycle and what it stores: word, place and slots of the next cycle.
use Rattle.std.specs.Prelude.{◌≡◌, ℕ, ◌<◌, ◌^◌, true, false, List, slice_get, Some}
use Rattle.ap_desc.specs.Clean.{IsClean}
use Rattle.ap_desc.specs.declared.design.Design.{Design}
use Rattle.ap_desc.specs.declared.design.Instr.{Instr}
use Rattle.ap_model.specs.Fire.{is_match}
use Rattle.ap_net.specs.declared.cell.Wire.{Wire}
use Rattle.ap_net.specs.Readings.{Reading}
use Rattle.ap_ctl.specs.Building.{is_on}
use Rattle.ap_ctl.specs.Lists.{EachPair}
use Rattle.ap_pipe.specs.Slots.{AreStageSlots}
use Rattle.ap_pipe.specs.declared.table.Home.{Home}
use Rattle.ap_pipe.specs.declared.table.StageSlots.{StageSlots}
use Rattle.ap_flight.specs.declared.entry.Leaving.{Leaving}
use Rattle.ap_flight.specs.Entries.{SlotTakes, left_to}
use Rattle.ap_flight.specs.Stages.{PassesOn}

-- each condition tells whether the word matches the instruction of its home
abbrev pub AreConditions : Design → ℕ → Reading → List Home → List Leaving → Type 0
AreConditions design word r homes list = EachPair (λ (home : Home) (l : Leaving). (instr : Instr) → slice_get design.instrs home.instr ≡ Some instr → is_on r l.cond ≡ is_match word instr) homes list

-- where an instruction is there, what it leaves has the values of its locals
abbrev pub AreValues : Reading → (ℕ → ℕ) → List Home → List Leaving → Type 0
AreValues r value homes list = EachPair (λ (home : Home) (l : Leaving). is_on r l.cond ≡ true → r.read l.net.number ≡ value home.local) homes list

-- In a stage of a clean design that isn't held, the slot of each home of the instruction that comes takes the value of the home's local.
pub record SlotsTakeLocals (design : Design) (stage : ℕ) (slots : StageSlots) (word : ℕ) (r : Reading) (list : List Leaving) (value : ℕ → ℕ) : Type 0 where
  pub take : (place : ℕ) (home : Home) (instr : Instr) → slice_get slots.homes place ≡ Some home → slice_get design.instrs home.instr ≡ Some instr → is_match word instr ≡ true
      → (hold register : Wire) (x : ℕ) → is_on r hold ≡ false → SlotTakes hold register (left_to home.slot slots.homes list) r x → x ≡ value home.local

abbrev pub SlotsTakeLive : Type 0
SlotsTakeLive = (design : Design) (stage : ℕ) (slots : StageSlots) (word : ℕ) (r : Reading) (list : List Leaving) (value : ℕ → ℕ) → IsClean design → AreStageSlots design stage slots → word < 2 ^ design.word
    → AreConditions design word r slots.homes list → AreValues r value slots.homes list → SlotsTakeLocals design stage slots word r list value

-- What passes on by a register is what the border asks: it stays where the stage is held, and else is what comes.
abbrev pub RegistersPassOn : Type 0
RegistersPassOn = (hold register w : Wire) (r : Reading) (x : ℕ) → PassesOn hold register w r x → (is_on r hold ≡ true → x ≡ r.read register.number) × (is_on r hold ≡ false → x ≡ r.read w.number)
