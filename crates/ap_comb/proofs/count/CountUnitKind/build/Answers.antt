use Rattle.std.proofs.Common.{refl}
use Rattle.std.proofs.lemmas.Result.{on_ok_weaker}
use Rattle.ap_unit.proofs.Laws.{shown_unit}
use Rattle.ap_bits.specs.KindCards.{count_card}
use Rattle.ap_comb.proofs.KindValues.{count_has_value}
use Rattle.ap_comb.proofs.count.CountUnitKind.build.Goals as goal

pub returns-clause-unit : goal.returns-clause-unit
returns-clause-unit c =
    let inputs = c.in_ok-inputs.inputs in
    let is = c.in_ok-inputs.ensures.inputs in
    let value = count_has_value c.number_of_bits.new.out inputs c.in_ok-y.y (λ read s. (c.in_ok-y.ensures.value read s).1) in
    on_ok_weaker c.show_result.result (shown_unit count_card 1 c.args.w inputs c.number_of_bits.new.out c.show_result.new.out c.in_ok-y.y is refl refl value) c.show_result.ensures.unit
