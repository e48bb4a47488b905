-- What the patterns of instructions have in common with words and with each other.
use Rattle.std.specs.Prelude.{◌≡◌, ℕ, ◌^◌, ◌<◌, bit_and}
use Rattle.ap_desc.specs.Designs.{Matches}
use Rattle.ap_desc.specs.declared.design.Instr.{Instr}

-- the fixed value has bits of the mask alone, and the mask those of a word of so many bits
pub record LiesInWord (bits : ℕ) (instr : Instr) : Type 0 where
  pub value : bit_and instr.fixed_value instr.fixed_mask ≡ instr.fixed_value
  pub mask : instr.fixed_mask < 2 ^ bits

-- the fixed values are the same in the bits that both masks have
abbrev pub Agree : Instr → Instr → Type 0
Agree one other =
    bit_and one.fixed_value (bit_and one.fixed_mask other.fixed_mask)
    ≡ bit_and other.fixed_value (bit_and one.fixed_mask other.fixed_mask)

-- some word of so many bits matches both
pub record ShareWord (bits : ℕ) (one other : Instr) : Type 0 where
  pub word : ℕ
  pub is_word : word < 2 ^ bits
  pub matches : Matches one word
  pub matches_other : Matches other word
