-- In which stages a line names the address after its word and the word's slots.
use Rattle.std.specs.Prelude.{ℕ, ◌==◌, ◌&&◌, Bool, true, false}
use Rattle.std.specs.List.{list_any}
use Rattle.ap_desc.specs.Chains.{operands_of}
use Rattle.ap_desc.specs.declared.design.Act.{Act}
use Rattle.ap_desc.specs.declared.design.Arg.{Arg}
use Rattle.ap_desc.specs.declared.design.Arg.TheVariants as arg
use Rattle.ap_desc.specs.declared.design.Design.{Design}
use Rattle.ap_desc.specs.declared.design.Instr.{Instr}
use Rattle.ap_desc.specs.declared.design.Micro.{Micro}

abbrev pub is_link : Arg → Bool
is_link arg.Link = true
is_link _ = false

-- an operand of the line is this address
abbrev pub line_links : Act → Bool
line_links a = list_any is_link (operands_of a)

-- and of a line of the instruction, or of any, in the stage
abbrev pub instr_links : ℕ → Instr → Bool
instr_links stage instr = list_any (λ (m : Micro). (m.stage == stage) && line_links m.act) instr.micros

abbrev pub links : Design → ℕ → Bool
links design stage = list_any (instr_links stage) design.instrs
