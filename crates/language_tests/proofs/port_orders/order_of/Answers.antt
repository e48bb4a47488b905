use Rattle.std.proofs.Common.{◌∷◌, [], ◌∙◌, ap, subst, sym}
use Rattle.ap_desc.specs.Sound.{IsSound}
use Rattle.language_tests.specs.PortExamples.{ports_design}
use Rattle.language_tests.proofs.port_orders.order_of.Goals as goal

pub order_in-requires : goal.order_in-requires
order_in-requires c = subst IsSound (sym (c.in_ok-design.ensures ∙ ap (λ ms. ports_design 4 2 1 (8 ∷ 8 ∷ 8 ∷ []) ms [] [] [] []) c.two_sums-lines.ensures)) c.requires
