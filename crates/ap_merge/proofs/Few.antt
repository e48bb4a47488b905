-- The uses of a clean design are few, and so are the operands of each.
use Rattle.std.proofs.Common.{◌≡◌, ℕ, ◌<◌, ◌≤◌, ◌^◌, length, Some, ap, subst, sym, arith}
use Rattle.std.specs.Prelude.{Contains}
use Rattle.ap_desc.proofs.Members.{In, contains_in}
use Rattle.ap_desc.specs.Clean.{IsClean}
use Rattle.ap_desc.specs.declared.design.Arg.{Arg}
use Rattle.ap_desc.specs.declared.design.Design.{Design}
use Rattle.ap_path.specs.Tables.{ArePathsOf}
use Rattle.ap_path.specs.Uses.{operand_at, uses_of}
use Rattle.ap_path.specs.declared.table.PathTable.{PathTable}
use Rattle.ap_path.specs.declared.table.PathUse.{PathUse}
use Rattle.ap_path.proofs.UseFacts.{few_operands, few_uses, use_from}
use Rattle.ap_merge.specs.Gathered.{AreFew}

pub few : (design : Design) (table : PathTable) → IsClean design → ArePathsOf design table → AreFew table.uses
few design table clean paths = record {
  operands = λ used operand a there at.
      let (instr, line, instr_there, line_there, is) = use_from design used (subst (In used) paths.uses (contains_in table.uses used there)) in
      few_operands instr.0 line.0 line.1 used operand a is at;
  count = let most = few_uses design clean.sound in let same = ap length paths.uses in omega arith;
}
