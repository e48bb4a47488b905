use Rattle.std.proofs.Common.{◌<◌, length, get_or, ap, ◌∙◌, arith}
use Rattle.ap_asm.specs.Words.{IsWordAmong}
use Rattle.ap_asm.proofs.Besides.{beside_next}
use Rattle.ap_asm.proofs.words.group_words.Goals as goal

pub loop-line-preserved : goal.loop-line-preserved
loop-line-preserved c =
    let lt : c.loop-line.line-index < length c.args.group.now.in_slots = (let z = ap length c.as_slice-line-items.ensures in omega (arith, c.loop-line-test.true)) in
    beside_next (IsWordAmong c.args.design.now c.args.landings.now) c.args.group.now.first c.args.group.now.in_slots c.loop-line.words c.push-in-loop-line.new.self c.loop-line.line-index c.line-item.result c.in_ok-word_of-2.field-0 lt
    (c.line-item.is ∙ ap (λ xs. get_or xs c.loop-line.line-index c.line-item.result) c.as_slice-line-items.ensures) c.loop-line.invariant c.in_ok-word_of-2.ensures c.in_ok-push-2.ensures.ok
