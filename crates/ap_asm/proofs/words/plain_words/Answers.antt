use Rattle.std.proofs.Common.{◌<◌, length, get_or, ap, ◌∙◌, arith}
use Rattle.ap_asm.specs.Words.{ArePlainWords}
use Rattle.ap_asm.proofs.Besides.{beside_more}
use Rattle.ap_asm.proofs.words.plain_words.Goals as goal

pub loop-group-preserved : goal.loop-group-preserved
loop-group-preserved c =
    let lt : c.loop-group.group-index < length c.args.source.now.groups = (let z = ap length c.as_slice-group-items.ensures in omega (arith, c.loop-group-test.true)) in
    beside_more (ArePlainWords c.args.design.now) c.args.source.now.groups c.loop-group.words c.push.new.self c.loop-group.group-index c.group-item.result c.in_ok-group_words.field-0 lt
    (c.group-item.is ∙ ap (λ xs. get_or xs c.loop-group.group-index c.group-item.result) c.as_slice-group-items.ensures) c.loop-group.invariant c.in_ok-group_words.ensures c.in_ok-push.ensures.ok
