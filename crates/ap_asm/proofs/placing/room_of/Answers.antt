use Rattle.std.proofs.Common.{arith}
use Rattle.ap_asm.proofs.Sizes.{enough_places, few_stages}
use Rattle.ap_asm.proofs.placing.room_of.Goals as goal

pub overflow_sub-result : goal.overflow_sub-result
overflow_sub-result c = (let a = few_stages c.args.design.now c.requires in let b = enough_places c.args.design.now c.requires in let e = c.code_size.ensures.size in omega arith)
