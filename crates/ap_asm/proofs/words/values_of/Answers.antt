use Rattle.std.proofs.Common.{◌<◌, length, arith}
use Rattle.ap_asm.specs.Words.{value_among}
use Rattle.ap_asm.proofs.Besides.{values_more}
use Rattle.ap_asm.proofs.words.values_of.Goals as goal

pub loop-operand-preserved : goal.loop-operand-preserved
loop-operand-preserved c =
    let lt : c.loop-operand.operand-index < length c.args.operands.now = omega arith in
    values_more (value_among c.args.landings.now) c.args.operands.now c.loop-operand.operand-index c.value_of.result _ c.loop-operand.values.items c.push.new.self.items lt c.value_of.ensures c.loop-operand.invariant c.in_ok-push.ensures.items
