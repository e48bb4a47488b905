-- Example designs: three units of which the last is slow, a register, a file, a memory and an input, all of 8 bits, and a few instructions.
use Rattle.std.specs.Prelude.{ℕ, ◌+◌, List, [], ◌∷◌, codes, Some, None}
use Rattle.ap_desc.specs.declared.design.Act.TheVariants as act
use Rattle.ap_desc.specs.declared.design.Arg.TheVariants as arg
use Rattle.ap_desc.specs.declared.design.Design.{Design}
use Rattle.ap_desc.specs.declared.design.Instr.{Instr}
use Rattle.ap_desc.specs.declared.design.Micro.{Micro}

-- an instruction whose word is this value, with these lines, which assign locals of these widths
abbrev pub lines_instr : List ℕ → ℕ → ℕ → List ℕ → List Micro → Instr
lines_instr name line value locals micros = record {
  name = name;
  line = line;
  format = 0;
  fixed = Some value ∷ [];
  fixed_mask = 255;
  fixed_value = value;
  locals = locals;
  micros = micros;
}

-- of so many stages, with transfers in this stage and so many slots: NOP, and I, J and K with these lines
abbrev pub ports_design : ℕ → ℕ → ℕ → List ℕ → List Micro → List ℕ → List Micro → List ℕ → List Micro → Design
ports_design stages branch slots one_locals one two_locals two three_locals three = record {
  stages = stages;
  address = 6;
  word = 8;
  branch = branch;
  slots = slots;
  transfer_line = 4;
  regs = record { name = codes "R"; width = 8; reset = 0 } ∷ [];
  files = record { name = codes "F"; width = 8; cells = 64; reads = 2; writes = 2 } ∷ [];
  mems = record { name = codes "M"; address = 8; width = 8 } ∷ [];
  inputs = record { name = codes "P"; width = 8 } ∷ [];
  units = record { name = codes "A"; kind = 0; width = 8; latency = 1 } ∷ record { name = codes "B"; kind = 1; width = 8; latency = 1 }
      ∷ record { name = codes "C"; kind = 2; width = 8; latency = 9 } ∷ [];
  formats = record { name = codes "W"; line = 11; fields = record { name = codes "op"; width = 8; low = 0 } ∷ [] } ∷ [];
  instrs = lines_instr (codes "NOP") 12 0 [] [] ∷ lines_instr (codes "I") 20 1 one_locals one ∷ lines_instr (codes "J") 30 2 two_locals two ∷ lines_instr (codes "K") 40 3 three_locals three ∷ [];
}

-- in stage 2, after line: o = const 8 1, s = FIRST.op o o, t = SECOND.op s o
abbrev pub two_sums : ℕ → ℕ → ℕ → List Micro
two_sums line first second = record { line = line + 1; stage = 2; act = act.Const 8 1 } ∷ record { line = line + 2; stage = 2; act = act.Compute first 0 (arg.Local 0) (arg.Local 0) }
    ∷ record { line = line + 3; stage = 2; act = act.Compute second 0 (arg.Local 1) (arg.Local 0) } ∷ []

-- after line 30: in stage 1 o = const 8 1, s = FIRST.op o o, and in stage 2 t = SECOND.op s o
abbrev pub sums_apart : ℕ → ℕ → List Micro
sums_apart first second = record { line = 31; stage = 1; act = act.Const 8 1 } ∷ record { line = 32; stage = 1; act = act.Compute first 0 (arg.Local 0) (arg.Local 0) }
    ∷ record { line = 33; stage = 2; act = act.Compute second 0 (arg.Local 1) (arg.Local 0) } ∷ []

-- 1 o = const 8 1, and in this stage s = A.op o o
abbrev pub one_sum : ℕ → ℕ → List Micro
one_sum line stage = record { line = line + 1; stage = 1; act = act.Const 8 1 } ∷ record { line = line + 2; stage = stage; act = act.Compute 0 0 (arg.Local 0) (arg.Local 0) } ∷ []

-- o = const 8 1 in the first of these stages, and R <- o in the second
abbrev pub one_write : ℕ → ℕ → List Micro
one_write first second = record { line = 21; stage = first; act = act.Const 8 1 } ∷ record { line = 22; stage = second; act = act.WriteReg 0 (arg.Local 0) None } ∷ []

-- p = in P in this stage, 2 s = C.op p p
abbrev pub slow_input : ℕ → List Micro
slow_input stage = record { line = 21; stage = stage; act = act.ReadIn 0 } ∷ record { line = 22; stage = 2; act = act.Compute 2 0 (arg.Local 0) (arg.Local 0) } ∷ []

-- in stage 2: v = M.read op, x = zext 8 v, s = A.op x x, t = UNIT.op s s
abbrev pub far_memory : ℕ → List Micro
far_memory unit = record { line = 21; stage = 2; act = act.ReadMem 0 (arg.Field 0) } ∷ record { line = 22; stage = 2; act = act.Zext 8 (arg.Local 0) }
    ∷ record { line = 23; stage = 2; act = act.Compute 0 0 (arg.Local 1) (arg.Local 1) } ∷ record { line = 24; stage = 2; act = act.Compute unit 0 (arg.Local 2) (arg.Local 2) } ∷ []

-- in stage 2, after line 30: o = const 8 1, s = UNIT.op o o, v = M.read s
abbrev pub sum_to_memory : ℕ → List Micro
sum_to_memory unit = record { line = 31; stage = 2; act = act.Const 8 1 } ∷ record { line = 32; stage = 2; act = act.Compute unit 0 (arg.Local 0) (arg.Local 0) } ∷ record { line = 33; stage = 2; act = act.ReadMem 0 (arg.Local 1) } ∷ []

-- in stage 2, after line 40: o = const 8 1, v = M.read o, s = A.op v v
abbrev pub memory_to_sum : List Micro
memory_to_sum = record { line = 41; stage = 2; act = act.Const 8 1 } ∷ record { line = 42; stage = 2; act = act.ReadMem 0 (arg.Local 0) } ∷ record { line = 43; stage = 2; act = act.Compute 0 0 (arg.Local 1) (arg.Local 1) } ∷ []

-- in stage 2, after line 30: o = const 8 1, x = slice 5 0 o, v = F.r0 x, s = A.op v v
abbrev pub file_to_sum : List Micro
file_to_sum = record { line = 21; stage = 2; act = act.Const 8 1 } ∷ record { line = 22; stage = 2; act = act.Slice 5 0 (arg.Local 0) } ∷ record { line = 23; stage = 2; act = act.ReadFile 0 0 (arg.Local 1) }
    ∷ record { line = 24; stage = 2; act = act.Compute 0 0 (arg.Local 2) (arg.Local 2) } ∷ []

-- in stage 2, after line 20: o = const 8 1, s = A.op o o, x = slice 5 0 s, v = F.r0 x
abbrev pub sum_to_file : List Micro
sum_to_file = record { line = 31; stage = 2; act = act.Const 8 1 } ∷ record { line = 32; stage = 2; act = act.Compute 0 0 (arg.Local 0) (arg.Local 0) } ∷ record { line = 33; stage = 2; act = act.Slice 5 0 (arg.Local 1) }
    ∷ record { line = 34; stage = 2; act = act.ReadFile 0 0 (arg.Local 2) } ∷ []
