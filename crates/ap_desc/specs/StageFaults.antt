-- The faults of stages: lines in stage 0 or in a falling order of stages, writes that come too early, loops within a stage, operands that
-- may change while a slow unit works, and too many slots. The rules are the project's own.
use Rattle.std.specs.Prelude.{◌≡◌, ℕ, ◌+◌, ◌==◌, ◌&&◌, ◌||◌, nat_lt, Bool, true, false, IsTrue, List, [], ◌∷◌, Any, Contains}
use Rattle.std.specs.List.{list_any}
use Rattle.ap_desc.specs.declared.design.Design.{Design}
use Rattle.ap_desc.specs.declared.design.Unit.{Unit as Resource}
use Rattle.ap_desc.specs.declared.design.Instr.{Instr}
use Rattle.ap_desc.specs.declared.design.Micro.{Micro}
use Rattle.ap_desc.specs.declared.design.Act.{Act}
use Rattle.ap_desc.specs.declared.design.Act.TheVariants as act
use Rattle.ap_desc.specs.Chains.{operands_of, Reaches}
use Rattle.ap_desc.specs.Designs.{width_at}
use Rattle.ap_desc.specs.Ports.{micros_in}

-- the line at this number is in stage 0
abbrev pub has_stage_zero : Design → ℕ → Bool
has_stage_zero design line = list_any (λ (m : Micro). (m.stage == 0) && (m.line == line)) (micros_in design)

-- the line at this number stands after one of a later stage
abbrev pub steps_back : List Micro → ℕ → Bool
steps_back [] line = false
steps_back (m ∷ []) line = false
steps_back (m ∷ n ∷ micros) line = (nat_lt n.stage m.stage && (n.line == line)) || steps_back (n ∷ micros) line

-- the line at this number is of a stage below that of its instruction's line before
abbrev pub has_stage_order : Design → ℕ → Bool
has_stage_order design line = list_any (λ (i : Instr). steps_back i.micros line) design.instrs

abbrev pub is_write : Act → Bool
is_write (act.WriteFile file port index value guard) = true
is_write (act.WriteReg reg value guard) = true
is_write (act.WriteMem mem at value guard) = true
is_write _ = false

-- the line at this number is a write in a stage in which a transfer may still kill it
abbrev pub has_early_commit : Design → ℕ → Bool
has_early_commit design line = list_any (λ (m : Micro). is_write m.act && nat_lt (m.stage + design.slots + 1) design.branch && (m.line == line)) (micros_in design)

-- the line uses a unit that takes more than one cycle
abbrev pub is_slow : Design → Act → Bool
is_slow design (act.Compute unit op a b) = nat_lt 1 (width_at (λ (u : Resource). u.latency) design.units unit)
is_slow design _ = false

-- what the line gives may change while a slow unit works: an input, a word of a memory, the result of a slow unit
abbrev pub is_unstable : Design → Act → Bool
is_unstable design (act.ReadIn input) = true
is_unstable design (act.ReadMem mem at) = true
is_unstable design a = is_slow design a

-- the operand reaches such a line within the stage
abbrev pub ReachesUnstable : Design → Instr → ℕ → Act → Type 0
ReachesUnstable design instr stage a = Any (λ x. (source : Micro) × Reaches instr stage x source × IsTrue (is_unstable design source.act)) (operands_of a)

-- the line at this number uses a slow unit, and one of its operands reaches such a line within its stage
pub record HasUnstableOperand (design : Design) (line : ℕ) : Type 0 where
  pub instr : Instr
  pub is_instr : Contains design.instrs instr
  pub micro : Micro
  pub is_line : Contains instr.micros micro
  pub at : micro.line ≡ line
  pub slow : IsTrue (is_slow design micro.act)
  pub unstable : ReachesUnstable design instr micro.stage micro.act

-- there are more slots than stages before the transfer
abbrev pub has_too_many_slots : Design → ℕ → Bool
has_too_many_slots design line = nat_lt design.branch design.slots && (design.transfer_line == line)
