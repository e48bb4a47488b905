use Rattle.std.proofs.Common.{◌∙◌, refl}
use Rattle.ap_unit.proofs.Laws.{shown_unit}
use Rattle.serve_tests.specs.TestCards.{less_and_sum_card}
use Rattle.serve_tests.proofs.TestValues.{chosen}
use Rattle.serve_tests.proofs.kinds.LessAndSumUnitKind.build.Goals as goal

pub returns-clause-unit : goal.returns-clause-unit
returns-clause-unit c =
    let i = c.in_ok-inputs.inputs in
    shown_unit less_and_sum_card 1 c.args.w i c.sum_or_less.new.out c.show_result.new.out c.in_ok-y.y c.in_ok-inputs.ensures.inputs refl refl
    (λ read s lt. (c.in_ok-y.ensures.value read s).1 ∙ chosen i.a.width (read i.sel.number) (read i.a.number) (read i.b.number) lt)
    c.in_ok-show_result.ensures.unit
