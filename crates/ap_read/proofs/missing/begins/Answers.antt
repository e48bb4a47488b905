use Rattle.std.proofs.Common.{◌<◌, length, map, sym, ◌∙◌, arith}
use Rattle.std.proofs.Math.ListN.{length-map}
use Rattle.std.proofs.lemmas.Bool.{not-true, not-false}
use Rattle.ap_text.specs.Spans.{bytes_in}
use Rattle.ap_read.proofs.Words.{word_more, word_stop}
use Rattle.ap_read.proofs.missing.begins.Goals as goal

pub returns-then-ne : goal.returns-then-ne
returns-then-ne c =
    let there : c.loop-i.i < length (map (bytes_in c.args.text.now) c.args.line.now.tokens) = simp length-map (omega (arith, c.len.ensures, c.if-len-words.false)) in
    sym (word_stop _ c.args.words.now c.loop-i.i _ _ _ c.loop-i-test.true there c.token.ensures c.as_bytes.ensures.value (not-true _ (sym c.ne.ensures ∙ c.if-ne.true)) c.loop-i.invariant)

pub loop-i-preserved : goal.loop-i-preserved
loop-i-preserved c =
    let there : c.loop-i.i < length (map (bytes_in c.args.text.now) c.args.line.now.tokens) = simp length-map (omega (arith, c.len.ensures, c.if-len-words.false)) in
    word_more _ c.args.words.now c.loop-i.i _ _ _ c.loop-i-test.true there c.token.ensures c.as_bytes.ensures.value (not-false _ (sym c.ne.ensures ∙ c.if-ne.false)) c.loop-i.invariant
