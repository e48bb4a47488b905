use Rattle.std.proofs.Common.{◌≡◌, ◌<◌, ◌≤◌, length, map, arith, ◌∙◌, sym}
use Rattle.std.proofs.Math.ListN.{length-map}
use Rattle.ap_text.specs.Spans.{line_in}
use Rattle.ap_top.specs.Form.{IsDueToken, IsLine}
use Rattle.ap_top.specs.Found.{token_of}
use Rattle.ap_top.proofs.Matching.{left_step, left_stop, left_end, takes_none, takes_as, lengths_of, views_from, got_from}
use Rattle.ap_top.proofs.numbers.Numbers.take_line.Goals as goal
use Rattle.ap_top.proofs.numbers.Numbers.take_line.Goals.{then-not-line-via-then-not-line, then-not-line-via-else-not-line+then-len-pieces}

pub returns-then-not-line : goal.returns-then-not-line
returns-then-not-line c = takes_none _ _ _ (λ form agrees line.
    let same : length c.args.pieces.now ≡ length c.args.line.now.tokens = simp length-map at (lengths_of (IsDueToken form) (map token_of c.args.pieces.now) (line_in c.args.text.now c.args.line.now).tokens line.1) in
    let clean = line.0 in
    elim c.then-not-line.branch [
      | then-not-line-via-then-not-line w ↦ let wrong = w.if-not-line.true in cc
      | then-not-line-via-else-not-line+then-len-pieces w ↦ w.if-len-pieces.true (w.len.ensures ∙ sym same)
    ])

pub returns-then-not-take_token : goal.returns-then-not-take_token
returns-then-not-take_token c =
    let there : c.loop-i.i < length (line_in c.args.text.now c.args.line.now).tokens = simp length-map (omega (arith, c.len.ensures, c.if-len-pieces.false)) in
    takes_none _ _ _ (λ form agrees line. left_stop IsDueToken _ _ _ _ _ _ _ _ (views_from token_of c.args.pieces.now c.loop-i.i _ c.loop-i-test.true) (got_from _ _ _ there c.token.ensures) c.loop-i.invariant (rw c.if-not-take_token.true at c.take_token.ensures) form agrees line.1)

pub loop-i-preserved : goal.loop-i-preserved
loop-i-preserved c =
    let there : c.loop-i.i < length (line_in c.args.text.now c.args.line.now).tokens = simp length-map (omega (arith, c.len.ensures, c.if-len-pieces.false)) in
    left_step IsDueToken _ _ _ _ _ _ _ _ (views_from token_of c.args.pieces.now c.loop-i.i _ c.loop-i-test.true) (got_from _ _ _ there c.token.ensures) c.loop-i.invariant (rw c.if-not-take_token.false at c.take_token.ensures)

pub returns : goal.returns
returns c =
    let done : length (map token_of c.args.pieces.now) ≤ c.loop-i.i = simp length-map c.loop-i-test.false in
    let done_too : length (line_in c.args.text.now c.args.line.now).tokens ≤ c.loop-i.i = simp length-map (omega (arith, c.len.ensures, c.if-len-pieces.false)) in
    takes_as _ _ _ (λ form. IsLine form (map token_of c.args.pieces.now) (line_in c.args.text.now c.args.line.now)) _ (λ form. ((λ h. (c.if-not-line.false, h)), (λ h. h.1))) (left_end IsDueToken _ _ _ _ _ done done_too c.loop-i.invariant)
