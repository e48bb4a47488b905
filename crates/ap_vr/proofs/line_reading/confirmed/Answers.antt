use Rattle.std.proofs.Common.{◌≡◌, false, sym, ap, ◌∙◌, rules}
use Rattle.std.specs.Str.{bytes_eq}
use Rattle.ap_vr.specs.LineTexts.{line_text}
use Rattle.ap_vr.proofs.LineFound.{other_line_found}
use Rattle.ap_vr.proofs.line_reading.confirmed.Goals as goal

pub returns-then-not-is-clause-err : goal.returns-then-not-is-clause-err
returns-then-not-is-clause-err c =
    let same : c.as_str.result.now ≡ line_text c.args.line = c.as_str.ensures.value ∙ c.in_ok-text.ensures in
    let wrong : c.is.result ≡ false = search rules in
    let other : bytes_eq c.args.bytes.now (line_text c.args.line) ≡ false = ap (bytes_eq c.args.bytes.now) (sym same) ∙ sym c.is.ensures ∙ wrong in
    other_line_found c.args.bytes.now c.args.line c.requires.found other
