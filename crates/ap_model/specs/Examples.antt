-- The processor on which the machines are worked out: four stages, a file of eight cells of 16 bits, a data memory, an input port,
-- three units and eleven instructions. Line numbers are those of its text, in the order of the lists below.
use Rattle.std.specs.Prelude.{ℕ, ◌+◌, ◌++◌, List, [], ◌∷◌, codes, replicate, Some, None, true, false}
use Rattle.ap_bits.specs.declared.card.Card.{Card}
use Rattle.ap_bits.specs.KindCards.{alu_card, shift_card, count_card, avg_card, mul_card}
use Rattle.ap_desc.specs.declared.design.Design.{Design}
use Rattle.ap_desc.specs.declared.design.File.{File}
use Rattle.ap_desc.specs.declared.design.Format.{Format}
use Rattle.ap_desc.specs.declared.design.Field.{Field}
use Rattle.ap_desc.specs.declared.design.Instr.{Instr}
use Rattle.ap_desc.specs.declared.design.Micro.{Micro}
use Rattle.ap_desc.specs.declared.design.Reg.{Reg}
use Rattle.ap_image.specs.declared.image.Image.{Image}
use Rattle.ap_image.specs.declared.trace.Trace.{Trace}
use Rattle.ap_image.specs.declared.row.Row.{Row}
use Rattle.ap_model.specs.declared.state.Entry.{Entry}
use Rattle.ap_model.specs.declared.state.Pass.{Pass}
use Rattle.ap_model.specs.declared.state.Sample.{Sample}
use Rattle.ap_model.specs.declared.storage.WritePort.TheVariants as port
use Rattle.ap_model.specs.Sequence.{sequential}
use Rattle.ap_model.specs.ShownRows.{rows_of}
use Rattle.ap_desc.specs.declared.design.Act.{Act}
use Rattle.ap_desc.specs.declared.design.Act.TheVariants as act
use Rattle.ap_desc.specs.declared.design.Arg.{Arg}
use Rattle.ap_desc.specs.declared.design.Arg.TheVariants as arg

-- the cards of the shelf, in its order
abbrev pub example_cards : List Card
example_cards = alu_card ∷ shift_card ∷ count_card ∷ avg_card ∷ mul_card ∷ []

abbrev pub field : List ℕ → ℕ → ℕ → Field
field name width low = record { name = name; width = width; low = low }

abbrev pub line : ℕ → ℕ → Act → Micro
line number stage what = record { line = number; stage = stage; act = what }

-- format R op:4 rd:3 rs:3 rt:3 fn:3 at line 11, I op:4 rd:3 rs:3 imm:6 at line 12, J op:4 rd:3 z:3 t:6 at line 13
abbrev pub format_r : Format
format_r = record { name = codes "R"; line = 11; fields = field (codes "op") 4 12 ∷ field (codes "rd") 3 9 ∷ field (codes "rs") 3 6 ∷ field (codes "rt") 3 3 ∷ field (codes "fn") 3 0 ∷ [] }

abbrev pub format_i : Format
format_i = record { name = codes "I"; line = 12; fields = field (codes "op") 4 12 ∷ field (codes "rd") 3 9 ∷ field (codes "rs") 3 6 ∷ field (codes "imm") 6 0 ∷ [] }

abbrev pub format_j : Format
format_j = record { name = codes "J"; line = 13; fields = field (codes "op") 4 12 ∷ field (codes "rd") 3 9 ∷ field (codes "z") 3 6 ∷ field (codes "t") 6 0 ∷ [] }

-- the fields by their places: op, rd, rs and rt of R; imm of I; t of J
abbrev pub rd : Arg
rd = arg.Field 1

abbrev pub rs : Arg
rs = arg.Field 2

abbrev pub rt : Arg
rt = arg.Field 3

abbrev pub imm : Arg
imm = arg.Field 3

abbrev pub t : Arg
t = arg.Field 3

-- instr NOP R op=0 rd=0 rs=0 rt=0 fn=0
abbrev pub nop : Instr
nop = record {
  name = codes "NOP";
  line = 14;
  format = 0;
  fixed = Some 0 ∷ Some 0 ∷ Some 0 ∷ Some 0 ∷ Some 0 ∷ [];
  fixed_mask = 0xffff;
  fixed_value = 0;
  locals = [];
  micros = [];
}

-- three lines in a row from this one, which compute from two cells: a = GPR.r0 rs, b = GPR.r1 rt, and in stage 2 this of both; then
-- GPR.w0 rd s in stage 3
abbrev pub of_two_cells : ℕ → Act → List Micro
of_two_cells n what =
    line n 1 (act.ReadFile 0 0 rs) ∷ line (n + 1) 1 (act.ReadFile 0 1 rt) ∷ line (n + 2) 2 what ∷ line (n + 3) 3 (act.WriteFile 0 0 rd (arg.Local 2) None) ∷ []

-- instr ADD R op=1 fn=0
abbrev pub add : Instr
add = record {
  name = codes "ADD";
  line = 16;
  format = 0;
  fixed = Some 1 ∷ None ∷ None ∷ None ∷ Some 0 ∷ [];
  fixed_mask = 0xf007;
  fixed_value = 0x1000;
  locals = 16 ∷ 16 ∷ 16 ∷ [];
  micros = of_two_cells 17 (act.Compute 0 0 (arg.Local 0) (arg.Local 1));
}

-- instr MUL R op=1 fn=1
abbrev pub mul : Instr
mul = record {
  name = codes "MUL";
  line = 22;
  format = 0;
  fixed = Some 1 ∷ None ∷ None ∷ None ∷ Some 1 ∷ [];
  fixed_mask = 0xf007;
  fixed_value = 0x1001;
  locals = 16 ∷ 16 ∷ 16 ∷ [];
  micros = of_two_cells 23 (act.Compute 2 0 (arg.Local 0) (arg.Local 1));
}

-- instr SLL R op=1 fn=2
abbrev pub sll : Instr
sll = record {
  name = codes "SLL";
  line = 28;
  format = 0;
  fixed = Some 1 ∷ None ∷ None ∷ None ∷ Some 2 ∷ [];
  fixed_mask = 0xf007;
  fixed_value = 0x1002;
  locals = 16 ∷ 16 ∷ 16 ∷ [];
  micros = of_two_cells 29 (act.Compute 1 0 (arg.Local 0) (arg.Local 1));
}

-- instr ADDI I op=2: a = GPR.r0 rs, i = sext 16 imm, s = ALU.add a i, GPR.w0 rd s
abbrev pub addi : Instr
addi = record {
  name = codes "ADDI";
  line = 34;
  format = 1;
  fixed = Some 2 ∷ None ∷ None ∷ None ∷ [];
  fixed_mask = 0xf000;
  fixed_value = 0x2000;
  locals = 16 ∷ 16 ∷ 16 ∷ [];
  micros = line 35 1 (act.ReadFile 0 0 rs) ∷ line 36 1 (act.Sext 16 imm) ∷ line 37 2 (act.Compute 0 0 (arg.Local 0) (arg.Local 1))
      ∷ line 38 3 (act.WriteFile 0 0 rd (arg.Local 2) None) ∷ [];
}

-- instr LD I op=3: a = GPR.r0 rs, i = sext 16 imm, s = ALU.add a i, x = slice 7 0 s, v = DM.read x, GPR.w0 rd v
abbrev pub ld : Instr
ld = record {
  name = codes "LD";
  line = 40;
  format = 1;
  fixed = Some 3 ∷ None ∷ None ∷ None ∷ [];
  fixed_mask = 0xf000;
  fixed_value = 0x3000;
  locals = 16 ∷ 16 ∷ 16 ∷ 8 ∷ 16 ∷ [];
  micros = line 41 1 (act.ReadFile 0 0 rs) ∷ line 42 1 (act.Sext 16 imm) ∷ line 43 2 (act.Compute 0 0 (arg.Local 0) (arg.Local 1))
      ∷ line 44 2 (act.Slice 7 0 (arg.Local 2)) ∷ line 45 2 (act.ReadMem 0 (arg.Local 3)) ∷ line 46 3 (act.WriteFile 0 0 rd (arg.Local 4) None) ∷ [];
}

-- instr ST I op=4: a = GPR.r0 rs, v = GPR.r1 rd, i = sext 16 imm, s = ALU.add a i, x = slice 7 0 s, DM.write x v
abbrev pub st : Instr
st = record {
  name = codes "ST";
  line = 48;
  format = 1;
  fixed = Some 4 ∷ None ∷ None ∷ None ∷ [];
  fixed_mask = 0xf000;
  fixed_value = 0x4000;
  locals = 16 ∷ 16 ∷ 16 ∷ 16 ∷ 8 ∷ [];
  micros = line 49 1 (act.ReadFile 0 0 rs) ∷ line 50 1 (act.ReadFile 0 1 rd) ∷ line 51 1 (act.Sext 16 imm) ∷ line 52 2 (act.Compute 0 0 (arg.Local 0) (arg.Local 2))
      ∷ line 53 2 (act.Slice 7 0 (arg.Local 3)) ∷ line 54 2 (act.WriteMem 0 (arg.Local 4) (arg.Local 1) None) ∷ [];
}

-- instr BZ J op=5 z=0: a = GPR.r0 rd, o = const 16 0, q = ALU.eq a o, c = slice 0 0 q, branch c t
abbrev pub bz : Instr
bz = record {
  name = codes "BZ";
  line = 56;
  format = 2;
  fixed = Some 5 ∷ None ∷ Some 0 ∷ None ∷ [];
  fixed_mask = 0xf1c0;
  fixed_value = 0x5000;
  locals = 16 ∷ 16 ∷ 16 ∷ 1 ∷ [];
  micros = line 57 1 (act.ReadFile 0 0 rd) ∷ line 58 1 (act.Const 16 0) ∷ line 59 2 (act.Compute 0 5 (arg.Local 0) (arg.Local 1))
      ∷ line 60 2 (act.Slice 0 0 (arg.Local 2)) ∷ line 61 2 (act.Branch (arg.Local 3) t) ∷ [];
}

-- instr JAL J op=6 z=0: jump t, l = zext 16 link, GPR.w0 rd l
abbrev pub jal : Instr
jal = record {
  name = codes "JAL";
  line = 63;
  format = 2;
  fixed = Some 6 ∷ None ∷ Some 0 ∷ None ∷ [];
  fixed_mask = 0xf1c0;
  fixed_value = 0x6000;
  locals = 16 ∷ [];
  micros = line 64 2 (act.Jump t) ∷ line 65 3 (act.Zext 16 arg.Link) ∷ line 66 3 (act.WriteFile 0 0 rd (arg.Local 0) None) ∷ [];
}

-- instr JR J op=7 z=0 t=0: a = GPR.r0 rd, x = slice 5 0 a, jump x
abbrev pub jr : Instr
jr = record {
  name = codes "JR";
  line = 68;
  format = 2;
  fixed = Some 7 ∷ None ∷ Some 0 ∷ Some 0 ∷ [];
  fixed_mask = 0xf1ff;
  fixed_value = 0x7000;
  locals = 16 ∷ 6 ∷ [];
  micros = line 69 1 (act.ReadFile 0 0 rd) ∷ line 70 2 (act.Slice 5 0 (arg.Local 0)) ∷ line 71 2 (act.Jump (arg.Local 1)) ∷ [];
}

-- instr INP I op=8 rs=0 imm=0: v = in P, GPR.w0 rd v
abbrev pub inp : Instr
inp = record {
  name = codes "INP";
  line = 73;
  format = 1;
  fixed = Some 8 ∷ None ∷ Some 0 ∷ Some 0 ∷ [];
  fixed_mask = 0xf1ff;
  fixed_value = 0x8000;
  locals = 16 ∷ [];
  micros = line 74 2 (act.ReadIn 0) ∷ line 75 3 (act.WriteFile 0 0 rd (arg.Local 0) None) ∷ [];
}

abbrev pub gpr : ℕ → File
gpr writes = record { name = codes "GPR"; width = 16; cells = 8; reads = 2; writes = writes }

-- the processor, with a transfer in stage 2 and one slot
abbrev pub processor : Design
processor = record {
  stages = 4;
  address = 6;
  word = 16;
  branch = 2;
  slots = 1;
  transfer_line = 4;
  regs = [];
  files = gpr 1 ∷ [];
  mems = record { name = codes "DM"; address = 8; width = 16 } ∷ [];
  inputs = record { name = codes "P"; width = 16 } ∷ [];
  units = record { name = codes "ALU"; kind = 0; width = 16; latency = 1 } ∷ record { name = codes "SH"; kind = 1; width = 16; latency = 1 }
      ∷ record { name = codes "MUL"; kind = 4; width = 16; latency = 17 } ∷ [];
  formats = format_r ∷ format_i ∷ format_j ∷ [];
  instrs = nop ∷ add ∷ mul ∷ sll ∷ addi ∷ ld ∷ st ∷ bz ∷ jal ∷ jr ∷ inp ∷ [];
}

-- instr SETI I op=11 rs=0: i = sext 16 imm, GPR.w1 rd i, both in stage 2
abbrev pub seti : Instr
seti = record {
  name = codes "SETI";
  line = 77;
  format = 1;
  fixed = Some 11 ∷ None ∷ Some 0 ∷ None ∷ [];
  fixed_mask = 0xf1c0;
  fixed_value = 0xb000;
  locals = 16 ∷ [];
  micros = line 78 2 (act.Sext 16 imm) ∷ line 79 2 (act.WriteFile 0 1 rd (arg.Local 0) None) ∷ [];
}

-- the same with a second write port of the file, which SETI uses in stage 2
abbrev pub two_ports : Design
two_ports = record processor { files = gpr 2 ∷ []; instrs = processor.instrs ++ seti ∷ [] }

-- instr LDE J op=9 z=0: v = EM.read t in stage 1, GPR.w0 rd v in stage 3
abbrev pub lde : Instr
lde = record {
  name = codes "LDE";
  line = 77;
  format = 2;
  fixed = Some 9 ∷ None ∷ Some 0 ∷ None ∷ [];
  fixed_mask = 0xf1c0;
  fixed_value = 0x9000;
  locals = 16 ∷ [];
  micros = line 78 1 (act.ReadMem 1 t) ∷ line 79 3 (act.WriteFile 0 0 rd (arg.Local 0) None) ∷ [];
}

-- the same with a second memory, which LDE reads in stage 1
abbrev pub two_memories : Design
two_memories = record processor { mems = processor.mems ++ record { name = codes "EM"; address = 6; width = 16 } ∷ []; instrs = processor.instrs ++ lde ∷ [] }

-- 6 and 7 to cells 1 and 2, their product to cell 3, and word 2 of the second memory, which is 9, to cell 4
abbrev pub waiting_image : Image
waiting_image = record { code = 0x2206 ∷ 0x2407 ∷ 0x0 ∷ 0x0 ∷ 0x1651 ∷ 0x9802 ∷ []; mems = [] ∷ (0 ∷ 0 ∷ 9 ∷ []) ∷ [] }

-- six lines without a wait, and then twenty with it
abbrev pub waiting_trace : Trace
waiting_trace = record { lines = replicate 6 (record { wait = false; ports = 0 ∷ [] }) ++ replicate 20 (record { wait = true; ports = 0 ∷ [] }) }

-- words without data
abbrev pub code_of : List ℕ → Image
code_of words = record { code = words; mems = [] ∷ [] }

-- a branch to 8 at 0, on a cell that is 0; additions that set cells 1, 2 and 3 at 1, 2 and 8
abbrev pub branch_code : Image
branch_code = code_of (0x5008 ∷ 0x2201 ∷ 0x2402 ∷ 0 ∷ 0 ∷ 0 ∷ 0 ∷ 0 ∷ 0x2603 ∷ [])

-- a jump to 8 at 0, which writes the address after its slot to cell 7; input reads to cells 1, 2 and 3 at 1, 2 and 8
abbrev pub jump_code : Image
jump_code = code_of (0x6e08 ∷ 0x8200 ∷ 0x8400 ∷ 0 ∷ 0 ∷ 0 ∷ 0 ∷ 0 ∷ 0x8600 ∷ [])

-- 5 to cell 1 in stage 3, 9 to the same cell through the second port in stage 2, and then the sum of that cell with itself
abbrev pub two_ports_code : Image
two_ports_code = code_of (0x2205 ∷ 0xb209 ∷ 0x0 ∷ 0x1448 ∷ [])

-- one input read, to cell 1
abbrev pub input_code : Image
input_code = code_of (0x8200 ∷ [])

-- no line: all inputs are 0
abbrev pub no_trace : Trace
no_trace = record { lines = [] }

-- the rows of the processor on these words without data, where all inputs are 0
abbrev pub rows_of_code : List ℕ → ℕ → List Row
rows_of_code words count = rows_of processor example_cards (code_of words) no_trace count

-- the writes of the first instructions, one at a time
abbrev pub log_of_code : List ℕ → ℕ → List Entry
log_of_code words count = (sequential processor example_cards (code_of words) [] count).log

-- three lines: 5, 6 and 7 at the input port
abbrev pub inputs_567 : Trace
inputs_567 = record { lines = record { wait = false; ports = 5 ∷ [] } ∷ record { wait = false; ports = 6 ∷ [] } ∷ record { wait = false; ports = 7 ∷ [] } ∷ [] }

-- what the input read of an instruction took, at line 74
abbrev pub sampled : ℕ → ℕ → Sample
sampled number value = record { number = number; line = 74; value = value }

-- rows that show nothing but these: a cycle without a write, a stalled one, one in which a transfer is taken, and one that writes
-- cells of the file through its port in stage 3
abbrev pub run : Row
run = record { stall = false; kill = false; writes = [] }

abbrev pub stall : Row
stall = record { stall = true; kill = false; writes = [] }

abbrev pub kill : Row
kill = record { stall = false; kill = true; writes = [] }

abbrev pub cell : ℕ → ℕ → Row
cell index value = record { stall = false; kill = false; writes = record { group = 0; index = Some index; value = value } ∷ [] }

-- a row that writes a cell through each of the two ports
abbrev pub two_cells : ℕ → ℕ → ℕ → ℕ → Row
two_cells index value other other_value = record { stall = false; kill = false; writes = record { group = 0; index = Some index; value = value } ∷ record { group = 1; index = Some other; value = other_value } ∷ [] }

-- a word of the file's port, as it is logged: the instruction's number, its stage, the cell and the value
abbrev pub logged : ℕ → ℕ → ℕ → Entry
logged number index value = record { number = number; stage = 3; write = record { port = port.Cell 0 0; at = index; value = value } }

abbrev pub pass : ℕ → ℕ → Pass
pass number stage = record { number = number; stage = stage }

-- The smallest processor that shows a write: two stages, the format op:1 v:7, the instructions NOP (op=0 v=0) and SET (op=1), which
-- writes v to the register R in stage 1.
abbrev pub set_format : Format
set_format = record { name = codes "F"; line = 5; fields = field (codes "op") 1 7 ∷ field (codes "v") 7 0 ∷ [] }

abbrev pub set_register : Reg
set_register = record { name = codes "R"; width = 7; reset = 0 }

abbrev pub set_nop : Instr
set_nop = record { name = codes "NOP"; line = 6; format = 0; fixed = Some 0 ∷ Some 0 ∷ []; fixed_mask = 0xff; fixed_value = 0; locals = []; micros = [] }

abbrev pub set_instr : Instr
set_instr = record {
  name = codes "SET";
  line = 8;
  format = 0;
  fixed = Some 1 ∷ None ∷ [];
  fixed_mask = 0x80;
  fixed_value = 0x80;
  locals = [];
  micros = line 9 1 (act.WriteReg 0 (arg.Field 1) None) ∷ [];
}

abbrev pub setter : Design
setter = record {
  stages = 2;
  address = 4;
  word = 8;
  branch = 1;
  slots = 0;
  transfer_line = 3;
  regs = set_register ∷ [];
  files = [];
  mems = [];
  inputs = [];
  units = [];
  formats = set_format ∷ [];
  instrs = set_nop ∷ set_instr ∷ [];
}
