use Rattle.std.proofs.Common.{◌<◌, Some, length, map, take, sym, ap, ◌∙◌, arith}
use Rattle.ap_text.specs.Spans.{bytes_in}
use Rattle.ap_text.specs.declared.line.Span.{Span}
use Rattle.ap_image.proofs.Cycles.{tokens_cut, tokens_more}
use Rattle.ap_program.specs.Statements.{operand_in, operands_in}
use Rattle.ap_program.proofs.OperandTokens.{operands_push, operands_stuck}
use Rattle.ap_program.proofs.lines.operands_in.Goals as goal

pub returns-in_default : goal.returns-in_default
returns-in_default c =
    let i = c.loop-token.token-index in
    let lt : i < length c.args.tokens.now = omega arith in
    let d : Span = record { from = 0; to = 0 } in
    sym (ap operands_in (tokens_cut c.args.text.now c.args.tokens.now i d lt) ∙ operands_stuck _ _ _ (ap operand_in (sym c.of.ensures) ∙ sym c.in_ok-operand.ensures ∙ c.in_default.is))

pub loop-token-preserved : goal.loop-token-preserved
loop-token-preserved c =
    let i = c.loop-token.token-index in
    let lt : i < length c.args.tokens.now = omega arith in
    let d : Span = record { from = 0; to = 0 } in
    ap operands_in (tokens_more c.args.text.now c.args.tokens.now i d lt)
    ∙ operands_push (map (bytes_in c.args.text.now) (take i c.args.tokens.now)) _ c.loop-token.operands c.in-Some.operand c.loop-token.invariant (ap operand_in (sym c.of.ensures) ∙ sym c.in_ok-operand.ensures ∙ c.in-Some.is)
    ∙ ap Some (sym c.in_ok-push.ensures.ok)
