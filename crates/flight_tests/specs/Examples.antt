-- A design of three stages whose one instruction besides NOP adds a field to a register.
use Rattle.std.specs.Prelude.{ℕ, List, [], ◌∷◌, codes, Option, Some, None}
use Rattle.ap_desc.specs.declared.design.Act.TheVariants as act
use Rattle.ap_desc.specs.declared.design.Arg.TheVariants as arg
use Rattle.ap_desc.specs.declared.design.Design.{Design}
use Rattle.ap_desc.specs.declared.design.Format.{Format}
use Rattle.ap_desc.specs.declared.design.Instr.{Instr}
use Rattle.ap_desc.specs.declared.design.Micro.{Micro}
use Rattle.ap_flight.specs.declared.plan.Planned.{Planned}

-- an instruction of the first format
abbrev pub f_instr : List ℕ → ℕ → List (Option ℕ) → ℕ → ℕ → List ℕ → List Micro → Instr
f_instr name number fixed mask value locals micros = record {
  name = name;
  line = number;
  format = 0;
  fixed = fixed;
  fixed_mask = mask;
  fixed_value = value;
  locals = locals;
  micros = micros;
}

-- the lines of INC: 1 z = zext 8 v, 1 a = R, 2 s = ALU.add a z, 2 R <- s
abbrev pub inc_lines : List Micro
inc_lines =
    record { line = 11; stage = 1; act = act.Zext 8 (arg.Field 1) } ∷ record { line = 12; stage = 1; act = act.ReadReg 0 }
    ∷ record { line = 13; stage = 2; act = act.Compute 0 0 (arg.Local 1) (arg.Local 0) } ∷ record { line = 14; stage = 2; act = act.WriteReg 0 (arg.Local 2) None } ∷ []

-- format F with a field op of two bits, and v below it, in eight bits
abbrev pub format_f : Format
format_f = record { name = codes "F"; line = 7; fields = record { name = codes "op"; width = 2; low = 6 } ∷ record { name = codes "v"; width = 6; low = 0 } ∷ [] }

-- instr NOP F op=0 v=0
abbrev pub nop : Instr
nop = f_instr (codes "NOP") 8 (Some 0 ∷ Some 0 ∷ []) 255 0 [] []

-- instr INC F op=1, with these lines
abbrev pub inc : Instr
inc = f_instr (codes "INC") 10 (Some 1 ∷ None ∷ []) 192 64 (8 ∷ 8 ∷ 8 ∷ []) inc_lines

-- three stages, a register R of 8 bits and a unit ALU; NOP, and INC
abbrev pub increments : Design
increments = record {
  stages = 3;
  address = 4;
  word = 8;
  branch = 1;
  slots = 0;
  transfer_line = 4;
  regs = record { name = codes "R"; width = 8; reset = 0 } ∷ [];
  files = [];
  mems = [];
  inputs = [];
  units = record { name = codes "ALU"; kind = 0; width = 8; latency = 1 } ∷ [];
  formats = format_f ∷ [];
  instrs = nop ∷ inc ∷ [];
}

-- a register by its name and bits
abbrev pub planned : List ℕ → ℕ → Planned
planned name width = record { name = name; width = width }
