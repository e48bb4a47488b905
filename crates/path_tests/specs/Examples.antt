-- Two designs: one whose instruction adds a field to a register, and the processor of the machines with the first six of its instructions.
use Rattle.std.specs.Prelude.{ℕ, ◌+◌, ◌-◌, ◌*◌, List, [], ◌∷◌, codes, Option, Some, None}
use Rattle.ap_desc.specs.declared.design.Act.TheVariants as act
use Rattle.ap_desc.specs.declared.design.Arg.{Arg}
use Rattle.ap_desc.specs.declared.design.Arg.TheVariants as arg
use Rattle.ap_desc.specs.declared.design.Design.{Design}
use Rattle.ap_desc.specs.declared.design.Format.{Format}
use Rattle.ap_desc.specs.declared.design.Instr.{Instr}
use Rattle.ap_desc.specs.declared.design.Micro.{Micro}
use Rattle.ap_model.specs.Examples.{add, addi, ld, line, mul, nop, processor, sll}
use Rattle.ap_path.specs.declared.table.PathPort.{PathPort}
use Rattle.ap_path.specs.declared.table.PathUse.{PathUse}
use Rattle.ap_merge.specs.declared.table.Source.{Source}
use Rattle.ap_pipe.specs.declared.table.Home.{Home}

-- an instruction of the first format
abbrev pub f_instr : List ℕ → ℕ → List (Option ℕ) → ℕ → ℕ → List ℕ → List Micro → Instr
f_instr name number fixed mask value locals micros = record {
  name = name;
  line = number;
  format = 0;
  fixed = fixed;
  fixed_mask = mask;
  fixed_value = value;
  locals = locals;
  micros = micros;
}

-- instr INC F op=1: 1 z = zext 8 v, 1 a = R, 2 s = ALU.add a z, 2 R <- s
abbrev pub inc_lines : List Micro
inc_lines =
    line 11 1 (act.Zext 8 (arg.Field 1)) ∷ line 12 1 (act.ReadReg 0) ∷ line 13 2 (act.Compute 0 0 (arg.Local 1) (arg.Local 0)) ∷ line 14 2 (act.WriteReg 0 (arg.Local 2) None) ∷ []

-- format F with a field op of so many bits, and v below it, in eight bits
abbrev pub format_f : ℕ → Format
format_f bits = record { name = codes "F"; line = 7; fields = record { name = codes "op"; width = bits; low = 8 - bits } ∷ record { name = codes "v"; width = 8 - bits; low = 0 } ∷ [] }

-- three stages, a register R of 8 bits and a unit ALU; NOP, and INC
abbrev pub increments : Design
increments = record {
  stages = 3;
  address = 4;
  word = 8;
  branch = 1;
  slots = 0;
  transfer_line = 4;
  regs = record { name = codes "R"; width = 8; reset = 0 } ∷ [];
  files = [];
  mems = [];
  inputs = [];
  units = record { name = codes "ALU"; kind = 0; width = 8; latency = 1 } ∷ [];
  formats = format_f 2 ∷ [];
  instrs = f_instr (codes "NOP") 8 (Some 0 ∷ Some 0 ∷ []) 255 0 [] [] ∷ f_instr (codes "INC") 10 (Some 1 ∷ None ∷ []) 192 64 (8 ∷ 8 ∷ 8 ∷ []) inc_lines ∷ [];
}

-- NOP, ADD, MUL, SLL, ADDI and LD
abbrev pub six : Design
six = record processor { instrs = nop ∷ add ∷ mul ∷ sll ∷ addi ∷ ld ∷ [] }

-- a use without guard
abbrev pub plain_use : ℕ → ℕ → ℕ → PathPort → List Arg → PathUse
plain_use instr micro stage port operands = record { instr = instr; micro = micro; stage = stage; port = port; operands = operands; guard = None }

abbrev pub source : ℕ → Arg → Source
source instr from = record { instr = instr; from = from }

abbrev pub home : ℕ → ℕ → ℕ → Home
home instr local slot = record { instr = instr; local = local; slot = slot }

-- an instruction of format F op:4 v:4 with this op: 1 a = R, 2 s = ALU.add a a, 2 R <- s
abbrev pub user : List ℕ → ℕ → ℕ → Instr
user name number op = f_instr name number (Some op ∷ None ∷ []) 240 (op * 16) (8 ∷ 8 ∷ [])
    (line (number + 1) 1 (act.ReadReg 0) ∷ line (number + 2) 2 (act.Compute 0 0 (arg.Local 0) (arg.Local 0)) ∷ line (number + 3) 2 (act.WriteReg 0 (arg.Local 1) None) ∷ [])

-- nine instructions that use one unit
abbrev pub nine_users : Design
nine_users = record increments {
  formats = format_f 4 ∷ [];
  instrs = f_instr (codes "NOP") 8 (Some 0 ∷ Some 0 ∷ []) 255 0 [] [] ∷ user (codes "A") 10 1 ∷ user (codes "B") 15 2 ∷ user (codes "C") 20 3 ∷ user (codes "D") 25 4 ∷ user (codes "E") 30 5
      ∷ user (codes "F") 35 6 ∷ user (codes "G") 40 7 ∷ user (codes "H") 45 8 ∷ user (codes "I") 50 9 ∷ [];
}
