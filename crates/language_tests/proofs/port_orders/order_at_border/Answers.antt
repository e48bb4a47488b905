use Rattle.std.proofs.Common.{◌∷◌, [], ◌∙◌, ap, subst, sym}
use Rattle.ap_desc.specs.Sound.{IsSound}
use Rattle.language_tests.specs.PortExamples.{ports_design, two_sums}
use Rattle.language_tests.proofs.port_orders.order_at_border.Goals as goal

pub order_in-requires : goal.order_in-requires
order_in-requires c =
    subst IsSound (sym (c.in_ok-design.ensures ∙ ap (λ ms. ports_design 4 2 1 (8 ∷ 8 ∷ 8 ∷ []) ms (8 ∷ 8 ∷ 8 ∷ []) c.sums_apart-second.result [] []) c.two_sums-first.ensures
    ∙ ap (λ ms. ports_design 4 2 1 (8 ∷ 8 ∷ 8 ∷ []) (two_sums 20 0 1) (8 ∷ 8 ∷ 8 ∷ []) ms [] []) c.sums_apart-second.ensures)) c.requires
