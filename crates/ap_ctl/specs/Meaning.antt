-- What control means: which stages are busy and held, whether a transfer kills, which flights fire, and where a word is in the next
-- cycle. Nothing here speaks of nets.
use Rattle.std.specs.Prelude.{◌≡◌, ℕ, ◌-◌, ◌||◌, ◌&&◌, nat_lt, not, if◌then◌else◌, Bool, true, false, length, map, List}
use Rattle.std.specs.List.{list_any, range_with_len}
use Rattle.ap_desc.specs.declared.design.Design.{Design}
use Rattle.ap_model.specs.Stalls.{has_memory_line, is_held_stage}
use Rattle.ap_net.specs.declared.cell.Wire.{Wire}
use Rattle.ap_net.specs.Readings.{Reading}
use Rattle.ap_ctl.specs.declared.nets.ControlGiven.{ControlGiven}
use Rattle.ap_ctl.specs.Building.{is_on}
use Rattle.ap_ctl.specs.Given.{is_slow_unit, is_used_in, slow_units}
use Rattle.ap_ctl.specs.Lists.{EachFrom, EachPair}

-- What control looks at in a cycle. Stage 0 is that of the word being fetched.
pub record Look : Type 0 where
  -- the word of a stage, and whether it is one
  pub word : ℕ → ℕ
  pub valid : ℕ → Bool
  -- mwait
  pub wait : Bool
  -- whether a unit that takes more than one cycle isn't done, by the number of the unit
  pub busy : ℕ → Bool
  -- whether the flight in the transfer's stage says that it transfers
  pub taken : Bool

-- a unit of the stage isn't done
abbrev pub has_busy_unit : Design → Look → ℕ → Bool
has_busy_unit design look stage = list_any (λ unit. is_slow_unit design unit && is_used_in design stage unit && look.busy unit) (range_with_len 0 (length design.units))

-- the stage's word waits for a memory
abbrev pub waits : Design → Look → ℕ → Bool
waits design look stage = look.wait && look.valid stage && has_memory_line design stage (look.word stage)

abbrev pub is_busy : Design → Look → ℕ → Bool
is_busy design look stage = has_busy_unit design look stage || waits design look stage

-- the stage is held by the busy ones
abbrev pub is_held : Design → Look → ℕ → Bool
is_held design look stage = is_held_stage design (map (is_busy design look) (range_with_len 1 (design.stages - 1))) stage

-- a transfer is taken: the flight in its stage fires and says so
abbrev pub kills : Design → Look → Bool
kills design look = look.taken && not (is_held design look design.branch)

-- a transfer kills what is in the stage
abbrev pub is_killable : Design → ℕ → Bool
is_killable design stage = nat_lt design.slots (design.branch - stage)

-- the stage's flight fires and goes on: it is there, and isn't held or killed
abbrev pub fires : Design → Look → ℕ → Bool
fires design look stage = if is_held design look stage || (kills design look && is_killable design stage) then false else look.valid stage

-- a word is in the stage in the next cycle: that of a held stage stays, and any other comes from the stage before
abbrev pub next_valid : Design → Look → ℕ → Bool
next_valid design look stage = if is_held design look stage then look.valid stage else fires design look (stage - 1)

-- Control looks at this in a reading of its nets.
pub record Sees (design : Design) (given : ControlGiven) (valid : List Wire) (r : Reading) (look : Look) : Type 0 where
  pub fetched : look.valid 0 ≡ true
  pub words : EachFrom (λ stage (w : Wire). look.word stage ≡ r.read w.number) 1 given.words
  pub bits : EachFrom (λ stage (w : Wire). look.valid stage ≡ is_on r w) 1 valid
  pub wait : look.wait ≡ is_on r given.mwait
  pub taken : look.taken ≡ is_on r given.taken
  pub busy : EachPair (λ unit (w : Wire). look.busy unit ≡ is_on r w) (slow_units design) given.busy
