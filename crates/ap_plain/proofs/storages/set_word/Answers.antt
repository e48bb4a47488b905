use Rattle.std.proofs.Common.{◌≤◌, length, ap, ◌∙◌, arith}
use Rattle.std.proofs.lemmas.Grind.{common_steps}
use Rattle.ap_image.specs.Words.{with_word}
use Rattle.ap_plain.proofs.StorageLemmas.{word_more}
use Rattle.ap_plain.proofs.storages.set_word.Goals as goal

pub loop-set-preserved : goal.loop-set-preserved
loop-set-preserved c =
    let low : length c.loop-set.set.items ≤ c.args.address = grind (arith, common_steps) in
    ap (λ xs. with_word xs c.args.address c.args.value) c.in_ok-push.ensures.items ∙ word_more c.loop-set.set.items c.args.address c.args.value low ∙ c.loop-set.invariant
