-- One more line of an instruction: its faults are those of the scope, and the draft has the line of its block.
use Rattle.std.proofs.Common.{◌≡◌, ℕ, ◌==◌, not, List, Option, Some, None, refl, ap}
use Rattle.ap_desc.specs.declared.design.Act.{Act}
use Rattle.ap_desc.specs.declared.design.Act.TheVariants as act
use Rattle.ap_desc.specs.declared.design.Arg.{Arg}
use Rattle.ap_desc.specs.declared.design.Arg.TheVariants as arg
use Rattle.ap_desc.specs.declared.design.Design.{Design}
use Rattle.ap_desc.specs.declared.design.Field.{Field}
use Rattle.ap_desc.specs.declared.design.Instr.{Instr}
use Rattle.ap_desc.specs.Designs.{arg_width, local_width}
use Rattle.ap_desc.specs.Widths as w
use Rattle.ap_check.specs.Drafts.{line_fault}

-- what a line needs depends on the widths of its operands alone
guard_at : (f g : Arg → ℕ) → ((x : Arg) → f x ≡ g x) → (guard : Option Arg) → w.is_wide_guard f guard ≡ w.is_wide_guard g guard
guard_at f g h None = refl
guard_at f g h (Some x) = ap (λ n. not (n == 1)) (h x)

pub fault_at : (design : Design) (stage : ℕ) (f g : Arg → ℕ) → ((x : Arg) → f x ≡ g x) → (a : Act) → line_fault design f stage a ≡ line_fault design g stage a
fault_at design stage f g h (act.Compute unit op a b) = let p = h a in let q = h b in cc
fault_at design stage f g h (act.ReadFile file port index) = let p = h index in cc
fault_at design stage f g h (act.ReadMem mem at) = let p = h at in cc
fault_at design stage f g h (act.Zext width a) = let p = h a in cc
fault_at design stage f g h (act.Sext width a) = let p = h a in cc
fault_at design stage f g h (act.Slice high low a) = let p = h a in cc
fault_at design stage f g h (act.Cat a b) = let p = h a in let q = h b in cc
fault_at design stage f g h (act.WriteFile file port index value guard) = let p = h index in let q = h value in let r = guard_at f g h guard in cc
fault_at design stage f g h (act.WriteReg reg value guard) = let q = h value in let r = guard_at f g h guard in cc
fault_at design stage f g h (act.WriteMem mem at value guard) = let p = h at in let q = h value in let r = guard_at f g h guard in cc
fault_at design stage f g h (act.Branch cond target) = let p = h cond in let q = h target in cc
fault_at design stage f g h (act.Jump target) = let p = h target in cc
fault_at design stage f g h _ = refl

-- and not on the instructions of the design
pub fault_beside : (design : Design) (instrs : List Instr) (stage : ℕ) (f : Arg → ℕ) (a : Act) → line_fault (record design { instrs = instrs }) f stage a ≡ line_fault design f stage a
fault_beside design instrs stage f (act.Compute unit op a b) = refl
fault_beside design instrs stage f (act.ReadFile file port index) = refl
fault_beside design instrs stage f (act.ReadMem mem at) = refl
fault_beside design instrs stage f (act.WriteFile file port index value guard) = refl
fault_beside design instrs stage f (act.WriteReg reg value guard) = refl
fault_beside design instrs stage f (act.WriteMem mem at value guard) = refl
fault_beside design instrs stage f (act.Branch cond target) = refl
fault_beside design instrs stage f (act.Jump target) = refl
fault_beside design instrs stage f _ = refl

pub width_beside : (design : Design) (instrs : List Instr) (widths : List ℕ) (fields : List Field) (x : Arg) → arg_width (record design { instrs = instrs }) widths fields x ≡ arg_width design widths fields x
width_beside design instrs widths fields (arg.Local i) = refl
width_beside design instrs widths fields (arg.Field i) = refl
width_beside design instrs widths fields arg.Pc = refl
width_beside design instrs widths fields arg.Link = refl

pub local_beside : (design : Design) (instrs : List Instr) (widths : List ℕ) (fields : List Field) (a : Act) → local_width (record design { instrs = instrs }) widths fields a ≡ local_width design widths fields a
local_beside design instrs widths fields (act.Cat a b) = let p = width_beside design instrs widths fields a in let q = width_beside design instrs widths fields b in cc
local_beside design instrs widths fields _ = refl
