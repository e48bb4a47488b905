use Rattle.std.proofs.Common.{refl, ◌≤◌, ap, subst, sym}
use Rattle.std.proofs.lemmas.Result.{on_ok_weaker}
use Rattle.ap_unit.proofs.Laws.{shown_unit}
use Rattle.ap_unit.specs.declared.pieces.Inputs.{Inputs}
use Rattle.ap_bits.specs.KindCards.{avg_card}
use Rattle.ap_comb.proofs.KindValues.{avg_has_value, any_width}
use Rattle.ap_comb.proofs.avg.AvgUnitKind.build.Goals as goal

pub returns-clause-unit : goal.returns-clause-unit
returns-clause-unit c =
    let inputs = c.in_ok-inputs.inputs in
    let is = c.in_ok-inputs.ensures.inputs in
    let width = sym (ap (λ (i : Inputs). i.a.width) is) in
    let some = subst (λ n. 1 ≤ n) width (any_width c.args.w c.requires.width).0 in
    let value = avg_has_value c.average.new.out inputs c.in_ok-y.y some (λ read s. (c.in_ok-y.ensures.value read s).1) in
    on_ok_weaker c.show_result.result (shown_unit avg_card 1 c.args.w inputs c.average.new.out c.show_result.new.out c.in_ok-y.y is refl refl value) c.show_result.ensures.unit
