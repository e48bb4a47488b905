use Rattle.std.proofs.Common.{◌∷◌, [], ◌∙◌, ap, subst, sym}
use Rattle.ap_desc.specs.Sound.{IsSound}
use Rattle.language_tests.specs.PortExamples.{ports_design}
use Rattle.language_tests.proofs.port_judging.judged_input.Goals as goal

pub judge-requires : goal.judge-requires
judge-requires c = subst IsSound (sym (c.in_ok-design.ensures ∙ ap (λ ms. ports_design 4 2 1 (8 ∷ 8 ∷ []) ms [] [] [] []) c.slow_input-lines.ensures)) c.requires
