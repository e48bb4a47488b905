use Rattle.std.proofs.Common.{◌<◌, Some, length, map, take, sym, ap, ◌∙◌, arith}
use Rattle.ap_text.specs.Numbers.{number_value}
use Rattle.ap_text.specs.Spans.{bytes_in}
use Rattle.ap_text.specs.declared.line.Span.{Span}
use Rattle.ap_image.specs.TraceTexts.{numbers_in}
use Rattle.ap_image.proofs.Cycles.{numbers_push, numbers_stuck, tokens_cut, tokens_more}
use Rattle.ap_program.proofs.lines.numbers.Goals as goal

pub returns-in_default : goal.returns-in_default
returns-in_default c =
    let i = c.loop-token.token-index in
    let lt : i < length c.args.tokens.now = omega arith in
    let d : Span = record { from = 0; to = 0 } in
    sym (ap numbers_in (tokens_cut c.args.text.now c.args.tokens.now i d lt) ∙ numbers_stuck _ _ _ (ap number_value (sym c.of.ensures) ∙ c.in_default.ensures.value))

pub loop-token-preserved : goal.loop-token-preserved
loop-token-preserved c =
    let i = c.loop-token.token-index in
    let lt : i < length c.args.tokens.now = omega arith in
    let d : Span = record { from = 0; to = 0 } in
    ap numbers_in (tokens_more c.args.text.now c.args.tokens.now i d lt)
    ∙ numbers_push (map (bytes_in c.args.text.now) (take i c.args.tokens.now)) _ c.loop-token.numbers c.in-Ok.value c.loop-token.invariant (ap number_value (sym c.of.ensures) ∙ c.in-Ok.ensures.value)
    ∙ ap Some (sym c.in_ok-push.ensures.ok)
