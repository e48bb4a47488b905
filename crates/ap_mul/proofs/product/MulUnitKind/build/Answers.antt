use Rattle.std.proofs.Common.{refl, subst}
use Rattle.std.proofs.lemmas.Result.{on_ok_weaker}
use Rattle.ap_unit.specs.Built.{IsUnitDraft}
use Rattle.ap_unit.proofs.Begun.{HoldsStepper-Makes}
use Rattle.ap_bits.specs.KindCards.{mul_card}
use Rattle.ap_mul.specs.Products.{multiply}
use Rattle.ap_mul.proofs.Multiplied.{multiplied}
use Rattle.ap_mul.proofs.product.MulUnitKind.build.Goals as goal

pub end_steps-requires-clause-unit : goal.end_steps-requires-clause-unit
end_steps-requires-clause-unit c = HoldsStepper-Makes _ _ _ c.in_ok-next.ensures.makes c.in_ok-unit.ensures.unit

pub returns-clause-unit : goal.returns-clause-unit
returns-clause-unit c =
    let w = c.in_ok-unit.unit.a.width in
    on_ok_weaker c.end_steps.result
    (λ all. subst (IsUnitDraft c.end_steps.new.out mul_card) c.in_ok-unit.ensures.width (all mul_card (multiply w) refl refl (multiplied w) c.in_ok-next.ensures.step))
    c.end_steps.ensures.unit
