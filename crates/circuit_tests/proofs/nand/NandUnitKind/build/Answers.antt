use Rattle.std.proofs.Common.{refl, ◌≤◌, ap, subst, sym}
use Rattle.std.proofs.lemmas.Result.{on_ok_weaker}
use Rattle.ap_unit.proofs.Laws.{shown_unit}
use Rattle.ap_unit.specs.declared.pieces.Inputs.{Inputs}
use Rattle.ap_comb.proofs.KindValues.{any_width}
use Rattle.circuit_tests.proofs.NandValues.{nand_card, nand_has_value}
use Rattle.circuit_tests.proofs.nand.NandUnitKind.build.Goals as goal

pub returns-clause-unit : goal.returns-clause-unit
returns-clause-unit c =
    let inputs = c.in_ok-inputs.inputs in
    let is = c.in_ok-inputs.ensures.inputs in
    let width = sym (ap (λ (i : Inputs). i.a.width) is) in
    let high = subst (λ n. n ≤ 64) width (any_width c.args.w c.requires.width).1 in
    let value = nand_has_value c.not_both.new.out inputs c.in_ok-y.y high (λ read s. (c.in_ok-y.ensures.value read s).1) in
    on_ok_weaker c.show_result.result (shown_unit nand_card 1 c.args.w inputs c.not_both.new.out c.show_result.new.out c.in_ok-y.y is refl refl value) c.show_result.ensures.unit
