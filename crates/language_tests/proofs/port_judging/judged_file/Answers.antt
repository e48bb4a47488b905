use Rattle.std.proofs.Common.{◌∷◌, [], ◌∙◌, ap, subst, sym}
use Rattle.ap_desc.specs.Sound.{IsSound}
use Rattle.language_tests.specs.PortExamples.{file_to_sum, ports_design}
use Rattle.language_tests.proofs.port_judging.judged_file.Goals as goal

pub judge-requires : goal.judge-requires
judge-requires c =
    subst IsSound (sym (c.in_ok-design.ensures ∙ ap (λ ms. ports_design 4 2 1 (8 ∷ 6 ∷ 8 ∷ 8 ∷ []) ms (8 ∷ 8 ∷ 6 ∷ 8 ∷ []) c.sum_to_file-second.result [] []) c.file_to_sum-first.ensures
    ∙ ap (λ ms. ports_design 4 2 1 (8 ∷ 6 ∷ 8 ∷ 8 ∷ []) file_to_sum (8 ∷ 8 ∷ 6 ∷ 8 ∷ []) ms [] []) c.sum_to_file-second.ensures)) c.requires
