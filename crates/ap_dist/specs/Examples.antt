-- Instructions for the worked rows: each accesses one thing or two, in six stages. Their words have op in the four high bits, then the
-- fields rd, rs and rt of three bits each.
use Rattle.std.specs.Prelude.{ℕ, ◌*◌, List, [], ◌∷◌, codes, Some, None}
use Rattle.ap_desc.specs.declared.design.Design.{Design}
use Rattle.ap_desc.specs.declared.design.Instr.{Instr}
use Rattle.ap_desc.specs.declared.design.Micro.{Micro}
use Rattle.ap_desc.specs.declared.design.Arg.TheVariants as arg
use Rattle.ap_desc.specs.declared.design.Act.TheVariants as act
use Rattle.ap_model.specs.Examples.{line, processor, rd, rs, rt}

-- an instruction of this op with these lines
abbrev pub of_op : ℕ → List Micro → Instr
of_op op micros = record {
  name = codes "I";
  line = 0;
  format = 0;
  fixed = Some op ∷ None ∷ None ∷ None ∷ None ∷ [];
  fixed_mask = 0xf000;
  fixed_value = op * 4096;
  locals = [];
  micros = micros;
}

-- 1: writes the register in stage 4. 2: reads it in stage 2. 3: reads it in stage 5. 4: writes it in stage 2. 5: as 1, under a guard
abbrev pub with_register : List Instr
with_register =
    of_op 1 (line 1 4 (act.WriteReg 0 rd None) ∷ []) ∷ of_op 2 (line 2 2 (act.ReadReg 0) ∷ []) ∷ of_op 3 (line 3 5 (act.ReadReg 0) ∷ [])
    ∷ of_op 4 (line 4 2 (act.WriteReg 0 rd None) ∷ []) ∷ of_op 5 (line 5 4 (act.WriteReg 0 rd (Some rs)) ∷ []) ∷ []

-- 1: writes the cell rd in stage 4. 2: reads the cell rs in stage 1. 3: writes the cell 5, a constant, in stage 4. 4: reads the cell 5 in
-- stage 1. 5: writes in stage 4 the cell that a register names. 6: reads the register in stage 1, writes it in stage 5 and the cell rd in
-- stage 4
abbrev pub with_cells : List Instr
with_cells =
    of_op 1 (line 1 4 (act.WriteFile 0 0 rd rt None) ∷ []) ∷ of_op 2 (line 2 1 (act.ReadFile 0 0 rs) ∷ [])
    ∷ of_op 3 (line 3 1 (act.ReadReg 0) ∷ line 4 1 (act.Const 3 5) ∷ line 5 4 (act.WriteFile 0 0 (arg.Local 1) rt None) ∷ [])
    ∷ of_op 4 (line 6 1 (act.Const 3 5) ∷ line 7 1 (act.ReadFile 0 0 (arg.Local 0)) ∷ [])
    ∷ of_op 5 (line 8 1 (act.ReadReg 1) ∷ line 9 4 (act.WriteFile 0 0 (arg.Local 0) rt None) ∷ [])
    ∷ of_op 6 (line 10 1 (act.ReadReg 0) ∷ line 11 4 (act.WriteFile 0 0 rd rt None) ∷ line 12 5 (act.WriteReg 0 rt None) ∷ []) ∷ []

-- 1: writes the memory in stage 4, at rd. 2: reads it in stage 2, at rs
abbrev pub with_memory : List Instr
with_memory = of_op 1 (line 1 4 (act.WriteMem 0 rd rt None) ∷ []) ∷ of_op 2 (line 2 2 (act.ReadMem 0 rs) ∷ []) ∷ []

abbrev pub six_stages : List Instr → Design
six_stages instrs = record processor { stages = 6; instrs = instrs }
