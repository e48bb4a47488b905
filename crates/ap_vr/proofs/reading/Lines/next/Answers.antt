use Rattle.std.proofs.Common.{◌≡◌, ℕ, List, drop, take, refl, ap, subst, ◌∙◌}
use Rattle.ap_vr.specs.Answers.{IsNoLine}
use Rattle.ap_vr.specs.LineTexts.{IsSpelled}
use Rattle.ap_vr.specs.TextLines.{first_len}
use Rattle.ap_vr.proofs.NextLine.{next_line, no_line}
use Rattle.ap_vr.proofs.reading.Lines.next.Goals as goal

pub returns-in-Ok-clause-ok : goal.returns-in-Ok-clause-ok
returns-in-Ok-clause-ok c =
    let rest : List ℕ = c.args.self.now.rest.now in
    let front : c.split_at.result.0.now ≡ take (first_len rest) rest = c.split_at.ensures.front ∙ ap (λ n. take n rest) c.line_len.ensures in
    let back : c.split_at.result.1.now ≡ drop (first_len rest) rest = c.split_at.ensures.back ∙ ap (λ n. drop n rest) c.line_len.ensures in
    next_line c.args.self.now _ c.in-Ok.line (subst (λ bytes. IsSpelled bytes c.in-Ok.line) front c.in-Ok.ensures.ok) back refl

pub returns-in-Err-NoForm-clause-err : goal.returns-in-Err-NoForm-clause-err
returns-in-Err-NoForm-clause-err c =
    let rest : List ℕ = c.args.self.now.rest.now in
    let front : c.split_at.result.0.now ≡ take (first_len rest) rest = c.split_at.ensures.front ∙ ap (λ n. take n rest) c.line_len.ensures in
    let none : IsNoLine c.split_at.result.0.now = rw c.in-Err-NoForm.field-0-is at c.in-Err-NoForm.ensures.err in
    rw c.bad.ensures (no_line c.args.self.now (subst IsNoLine front none))
