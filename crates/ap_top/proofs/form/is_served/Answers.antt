use Rattle.ap_top.proofs.Additions.{served}
use Rattle.ap_top.proofs.form.is_served.Goals as goal

pub returns-in-Some : goal.returns-in-Some
returns-in-Some g c = served _ _ _ c.in-Some.form _ _ c.if-place-ne-UNIT_LINE.false c.in-Some.ensures.some.0 c.is_some.ensures c.find_addition.ensures.some c.find_addition.ensures.none
