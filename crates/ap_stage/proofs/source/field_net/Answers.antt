use Rattle.std.proofs.Common.{◌≡◌, ◌+◌, ◌-◌, ◌/◌, ◌%◌, ◌^◌, ap, ◌∙◌, arith}
use Rattle.ap_stage.proofs.source.field_net.Goals as goal

pub sliced-requires-clause-order : goal.sliced-requires-clause-order
sliced-requires-clause-order c = let some = c.requires.field.some in omega arith

pub sliced-requires-clause-within : goal.sliced-requires-clause-within
sliced-requires-clause-within c = let some = c.requires.field.some in let within = c.requires.field.within in omega arith

pub returns-clause-carries : goal.returns-clause-carries
returns-clause-carries c =
    let bits = c.in_ok-bits.ensures.carries in
    let some = c.requires.field.some in
    let f = c.args.field.now in
    let same : f.low + f.width - 1 - f.low + 1 ≡ f.width = omega arith in
    record { net = bits.net; wide = bits.wide ∙ same; means = record { holds = λ r s. bits.means.holds r s ∙ ap (λ k. (r.read c.args.word.number / 2 ^ f.low) % 2 ^ k) same } }
