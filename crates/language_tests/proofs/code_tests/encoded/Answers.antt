use Rattle.std.proofs.Common.{◌≡◌, ◌<◌, List, [], length, sym, ap, subst, ◌∙◌}
use Rattle.ap_desc.specs.Clean.{IsClean}
use Rattle.ap_desc.specs.declared.design.Design.{Design}
use Rattle.ap_desc.specs.declared.design.Instr.{Instr}
use Rattle.ap_enc.specs.Examples.{words_design}
use Rattle.ap_enc.specs.Words.{operands_at}
use Rattle.language_tests.proofs.code_tests.encoded.Goals as goal

pub encode-requires-clause-clean : goal.encode-requires-clause-clean
encode-requires-clause-clean c =
    let e : c.in_ok-design.design ≡ words_design [] = c.in_ok-design.ensures ∙ ap (λ (is : List Instr). record (words_design []) { instrs = is }) c.in_ok-instrs.ensures in
    subst IsClean (sym e) c.words_are_clean.ensures

pub encode-requires-clause-instr : goal.encode-requires-clause-instr
encode-requires-clause-instr c =
    let e : c.in_ok-design.design ≡ words_design [] = c.in_ok-design.ensures ∙ ap (λ (is : List Instr). record (words_design []) { instrs = is }) c.in_ok-instrs.ensures in
    let P : Design → Type 0 = λ d. c.args.instr < length d.instrs in
    subst P (sym e) c.requires.instr

pub encode-requires-clause-values : goal.encode-requires-clause-values
encode-requires-clause-values c =
    let e : c.in_ok-design.design ≡ words_design [] = c.in_ok-design.ensures ∙ ap (λ (is : List Instr). record (words_design []) { instrs = is }) c.in_ok-instrs.ensures in
    let P : Design → Type 0 = λ d. length c.args.values.now ≡ length (operands_at d c.args.instr) in
    subst P (sym e) c.requires.values
