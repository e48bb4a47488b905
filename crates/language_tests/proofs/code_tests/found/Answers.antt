use Rattle.std.proofs.Common.{◌≡◌, List, [], sym, ap, subst, ◌∙◌}
use Rattle.ap_desc.specs.Clean.{IsClean}
use Rattle.ap_desc.specs.declared.design.Instr.{Instr}
use Rattle.ap_enc.specs.Examples.{words_design}
use Rattle.language_tests.proofs.code_tests.found.Goals as goal

pub find-requires : goal.find-requires
find-requires c =
    let e : c.in_ok-design.design ≡ words_design [] = c.in_ok-design.ensures ∙ ap (λ (is : List Instr). record (words_design []) { instrs = is }) c.in_ok-instrs.ensures in
    subst IsClean (sym e) c.words_are_clean.ensures
