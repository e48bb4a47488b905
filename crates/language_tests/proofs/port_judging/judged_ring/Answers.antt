use Rattle.std.proofs.Common.{◌∷◌, [], ◌∙◌, ap, subst, sym}
use Rattle.ap_desc.specs.Sound.{IsSound}
use Rattle.language_tests.specs.PortExamples.{ports_design, sum_to_memory, two_sums}
use Rattle.language_tests.proofs.port_judging.judged_ring.Goals as goal

pub judge-requires : goal.judge-requires
judge-requires c =
    subst IsSound (sym (c.in_ok-design.ensures ∙ ap (λ ms. ports_design 4 2 1 (8 ∷ 8 ∷ 8 ∷ []) ms (8 ∷ 8 ∷ 8 ∷ []) c.sum_to_memory-second.result (8 ∷ 8 ∷ 8 ∷ []) c.memory_to_sum-third.result) c.two_sums-first.ensures
    ∙ ap (λ ms. ports_design 4 2 1 (8 ∷ 8 ∷ 8 ∷ []) (two_sums 20 0 1) (8 ∷ 8 ∷ 8 ∷ []) ms (8 ∷ 8 ∷ 8 ∷ []) c.memory_to_sum-third.result) c.sum_to_memory-second.ensures
    ∙ ap (λ ms. ports_design 4 2 1 (8 ∷ 8 ∷ 8 ∷ []) (two_sums 20 0 1) (8 ∷ 8 ∷ 8 ∷ []) (sum_to_memory 1) (8 ∷ 8 ∷ 8 ∷ []) ms) c.memory_to_sum-third.ensures)) c.requires
