use Rattle.std.proofs.Common.{◌<◌, ◌∷◌, ◌++◌, [], length, get_or, sym, ap, ◌∙◌, arith}
use Rattle.ap_asm.proofs.Besides.{take_at}
use Rattle.ap_asm.proofs.assembling.in_32_bits.Goals as goal

pub loop-number-preserved : goal.loop-number-preserved
loop-number-preserved c =
    let lt : c.loop-number.number-index < length c.args.numbers.now = omega arith in
    c.in_ok-push.ensures.ok ∙ ap (λ l. l ++ get_or c.args.numbers.now c.loop-number.number-index 0 ∷ []) c.loop-number.invariant ∙ sym (take_at c.args.numbers.now c.loop-number.number-index 0 lt)
