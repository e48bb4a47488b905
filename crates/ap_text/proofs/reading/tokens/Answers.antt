use Rattle.std.proofs.Common.{◌≡◌, ◌∙◌, sym, ap, filter, arith}
use Rattle.std.specs.List.{slice_split}
use Rattle.ap_text.specs.Lines.{is_blank, is_token}
use Rattle.ap_text.proofs.Tokens.{TokensSoFar, tokens_so_far-blank, tokens_so_far-other, tokens_so_far-end, tokens_so_far-within}
use Rattle.ap_text.proofs.reading.tokens.Goals as goal
use Rattle.ap_text.proofs.reading.tokens.Goals.{then-is_blank+in_ok-add_token, else-is_blank}

pub loop-at-preserved : goal.loop-at-preserved
loop-at-preserved c =
    elim c.if-is_blank.branch [
      | then-is_blank+in_ok-add_token w ↦
          rw (w.spans-is, w.in_ok-add_token.ensures, w.from-is)
          (tokens_so_far-blank _ _ _ _ _ c.loop-at.invariant c.loop-at-test.true c.before_comment-code.ensures.within.room (sym c.is_blank.ensures ∙ w.if-is_blank.true))
      | else-is_blank w ↦
          rw (w.spans-is, w.from-is)
          (tokens_so_far-other _ _ _ _ _ c.loop-at.invariant (sym c.is_blank.ensures ∙ w.if-is_blank.false))
    ]

pub returns-clause-tokens : goal.returns-clause-tokens
returns-clause-tokens c =
    let ended : c.loop-at.at ≡ c.before_comment-code.result.to = omega arith in
    let so_far : TokensSoFar c.args.text.now c.before_comment-code.result c.loop-at.spans c.loop-at.from c.before_comment-code.result.to = rw ended at c.loop-at.invariant in
    rw c.in_ok-add_token-2.ensures
    (tokens_so_far-end _ _ _ _ so_far c.before_comment-code.ensures.within.room ∙ ap (λ bytes. filter is_token (slice_split is_blank bytes)) c.before_comment-code.ensures.bytes)

pub returns-clause-within : goal.returns-clause-within
returns-clause-within c =
    let ended : c.loop-at.at ≡ c.before_comment-code.result.to = omega arith in
    let so_far : TokensSoFar c.args.text.now c.before_comment-code.result c.loop-at.spans c.loop-at.from c.before_comment-code.result.to = rw ended at c.loop-at.invariant in
    rw c.in_ok-add_token-2.ensures (tokens_so_far-within _ _ _ _ so_far c.before_comment-code.ensures.within.room)
