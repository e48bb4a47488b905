use Rattle.std.proofs.Common.{refl}
use Rattle.ap_unit.proofs.Laws.{shown_unit}
use Rattle.ap_bits.specs.KindCards.{alu_card}
use Rattle.ap_comb.proofs.alu.AluUnitKind.build.Goals as goal

pub returns-clause-unit : goal.returns-clause-unit
returns-clause-unit c =
    shown_unit alu_card 4 c.args.w c.in_ok-inputs.inputs c.chosen.new.out c.show_result.new.out c.in_ok-y.y c.in_ok-inputs.ensures.inputs refl refl
    (λ read s. (c.in_ok-y.ensures.value read s).1) c.in_ok-show_result.ensures.unit
