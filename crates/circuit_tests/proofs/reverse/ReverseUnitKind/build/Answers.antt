use Rattle.std.proofs.Common.{◌∙◌, refl}
use Rattle.circuit_tests.specs.Reverse.{reverse_card}
use Rattle.ap_unit.proofs.Laws.{shown_unit}
use Rattle.circuit_tests.proofs.Reversed.{reversed}
use Rattle.circuit_tests.proofs.reverse.ReverseUnitKind.build.Goals as goal

pub returns-clause-unit : goal.returns-clause-unit
returns-clause-unit c =
    let i = c.in_ok-inputs.inputs in
    shown_unit reverse_card 1 c.args.w i c.make.new.self c.show_result.new.out c.in_ok-y.y c.in_ok-inputs.ensures.inputs refl refl
    (λ read s lt. (c.in_ok-y.ensures.value read s).1 ∙ reversed i.a.width (read i.sel.number) (read i.a.number) (read i.b.number) lt)
    c.in_ok-show_result.ensures.unit
