-- An instruction: 1 i = R, 1 x = F.0 i, 2 z = zext 8 v, 2 m = M[z], 2 s = ALU.add m x, 2 R <- s.
use Rattle.std.specs.Prelude.{ℕ, List, [], ◌∷◌, None}
use Rattle.ap_desc.specs.declared.design.Act.{Act}
use Rattle.ap_desc.specs.declared.design.Act.TheVariants as act
use Rattle.ap_desc.specs.declared.design.Arg.TheVariants as arg
use Rattle.ap_desc.specs.declared.design.Micro.{Micro}

abbrev pub micro : ℕ → ℕ → Act → Micro
micro line stage a = record { line = line; stage = stage; act = a }

abbrev pub worked_lines : List Micro
worked_lines =
    micro 11 1 (act.ReadReg 0) ∷ micro 12 1 (act.ReadFile 1 2 (arg.Local 0)) ∷ micro 13 2 (act.Zext 8 (arg.Field 1)) ∷ micro 14 2 (act.ReadMem 1 (arg.Local 2)) ∷ micro 15 2 (act.Compute 3 0 (arg.Local 3) (arg.Local 1))
    ∷ micro 16 2 (act.WriteReg 0 (arg.Local 4) None) ∷ []
