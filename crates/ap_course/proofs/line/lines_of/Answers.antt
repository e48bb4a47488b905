use Rattle.std.proofs.Common.{◌≡◌, length, ap, ◌∙◌, arith}
use Rattle.ap_desc.specs.Chains.{makers}
use Rattle.ap_course.proofs.Few.{few_makers}
use Rattle.ap_course.proofs.line.lines_of.Goals as goal

pub overflow_cast-local : goal.overflow_cast-local
overflow_cast-local c =
    let few = few_makers c.args.instr.now in
    let made = c.in_ok-made.ensures in
    let list = c.as_slice-micro-items.ensures in
    let long : length c.as_slice-micro-items.result.now ≡ length (makers c.args.instr.now) = ap length (list ∙ made) in
    grind (arith, few, long)
