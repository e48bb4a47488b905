-- Example designs whose instructions have no lines: some words of a processor of 16 bits, and a design of 8 bits with NOP alone.
use Rattle.std.specs.Prelude.{ℕ, ◌++◌, List, [], ◌∷◌, codes, Option, Some, None}
use Rattle.ap_desc.specs.Examples.{adder_fields}
use Rattle.ap_desc.specs.declared.design.Design.{Design}
use Rattle.ap_desc.specs.declared.design.Field.{Field}
use Rattle.ap_desc.specs.declared.design.Format.{Format}
use Rattle.ap_desc.specs.declared.design.Instr.{Instr}
use Rattle.ap_desc.specs.declared.design.Micro.{Micro}

-- format I op:4 rd:3 rs:3 imm:6
abbrev pub immediate_fields : List Field
immediate_fields =
    record { name = codes "op"; width = 4; low = 12 } ∷ record { name = codes "rd"; width = 3; low = 9 } ∷ record { name = codes "rs"; width = 3; low = 6 }
    ∷ record { name = codes "imm"; width = 6; low = 0 } ∷ []

-- an instruction with a pattern and no lines
abbrev pub plain_instr : List ℕ → ℕ → ℕ → List (Option ℕ) → ℕ → ℕ → Instr
plain_instr name line format fixed mask value = record { name = name; line = line; format = format; fixed = fixed; fixed_mask = mask; fixed_value = value; locals = []; micros = [] }

-- NOP R with all fields 0, ADD R op=1 fn=0, MUL R op=1 fn=1 and ADDI I op=2
abbrev pub four_instrs : List Instr
four_instrs =
    plain_instr (codes "NOP") 7 0 (Some 0 ∷ Some 0 ∷ Some 0 ∷ Some 0 ∷ Some 0 ∷ []) 0xffff 0 ∷ plain_instr (codes "ADD") 9 0 (Some 1 ∷ None ∷ None ∷ None ∷ Some 0 ∷ []) 0xf007 0x1000
    ∷ plain_instr (codes "MUL") 11 0 (Some 1 ∷ None ∷ None ∷ None ∷ Some 1 ∷ []) 0xf007 0x1001 ∷ plain_instr (codes "ADDI") 13 1 (Some 2 ∷ None ∷ None ∷ None ∷ []) 0xf000 0x2000 ∷ []

-- Y I with this op, at line 15
abbrev pub fifth_instr : ℕ → ℕ → Instr
fifth_instr op value = plain_instr (codes "Y") 15 1 (Some op ∷ None ∷ None ∷ None ∷ []) 0xf000 value

abbrev pub words_design : List Instr → Design
words_design further = record {
  stages = 4;
  address = 6;
  word = 16;
  branch = 2;
  slots = 1;
  transfer_line = 4;
  regs = [];
  files = [];
  mems = [];
  inputs = [];
  units = [];
  formats = record { name = codes "R"; line = 5; fields = adder_fields } ∷ record { name = codes "I"; line = 6; fields = immediate_fields } ∷ [];
  instrs = four_instrs ++ further;
}

-- format R op:WIDTH at line 5, and NOP R op=VALUE at line 6 with this mask and these lines, which assign locals of these widths
abbrev pub nop_design : ℕ → ℕ → ℕ → List ℕ → List Micro → Design
nop_design width value mask locals micros = record (words_design []) {
  word = 8;
  formats = record { name = codes "R"; line = 5; fields = record { name = codes "op"; width = width; low = 0 } ∷ [] } ∷ [];
  instrs = record { name = codes "NOP"; line = 6; format = 0; fixed = Some value ∷ []; fixed_mask = mask; fixed_value = 0; locals = locals; micros = micros } ∷ [];
}
