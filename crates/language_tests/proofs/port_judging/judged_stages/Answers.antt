use Rattle.std.proofs.Common.{◌∷◌, [], ◌∙◌, ap, subst, sym}
use Rattle.ap_desc.specs.Sound.{IsSound}
use Rattle.language_tests.specs.PortExamples.{one_sum, ports_design}
use Rattle.language_tests.proofs.port_judging.judged_stages.Goals as goal

pub judge-requires : goal.judge-requires
judge-requires c =
    subst IsSound (sym (c.in_ok-design.ensures ∙ ap (λ ms. ports_design 4 2 1 (8 ∷ 8 ∷ []) ms (8 ∷ 8 ∷ []) c.one_sum-second.result [] []) c.one_sum-first.ensures
    ∙ ap (λ ms. ports_design 4 2 1 (8 ∷ 8 ∷ []) (one_sum 20 1) (8 ∷ 8 ∷ []) ms [] []) c.one_sum-second.ensures)) c.requires
