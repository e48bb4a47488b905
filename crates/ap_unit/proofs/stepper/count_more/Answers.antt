use Rattle.std.proofs.Common.{ap, ◌+◌, ◌%◌, ◌^◌, ◌∙◌}
use Rattle.std.specs.Prelude.{◌==◌, if◌then◌else◌}
use Rattle.ap_net.proofs.Laws.{Makes-trans}
use Rattle.ap_unit.proofs.stepper.count_more.Goals as goal

pub returns-clause-value : goal.returns-clause-value
returns-clause-value c = λ read s.
    let more = c.in_ok-more.ensures.value read s in
    let risen = c.in_ok-risen.ensures.value read more.0 in
    let one = c.in_ok-one.ensures.value read risen.0 in
    let count = c.args.unit.count in
    let sum = risen.1 ∙ ap (λ n. (read count.number + n) % 2 ^ count.width) one.1 in
    (one.0, more.1 ∙ ap (λ n. if read c.args.unit.running.number == 1 then n else read count.number) sum)

pub returns-clause-makes : goal.returns-clause-makes
returns-clause-makes c = Makes-trans _ _ _ c.in_ok-one.ensures.makes (Makes-trans _ _ _ c.in_ok-risen.ensures.makes c.in_ok-more.ensures.makes)
