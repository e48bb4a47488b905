use Rattle.std.proofs.Common.{◌≡◌, ◌+◌, ◌-◌, take, drop, sym, ap, ◌∙◌, arith, ◌++◌}
use Rattle.std.proofs.Math.Seq.{take-add}
use Rattle.std.proofs.lemmas.Result.{err_from_is_err_and}
use Rattle.ap_desk.proofs.Steps.{gains_more, gains_front, gains_all}
use Rattle.ap_desk.proofs.pieces.append_all.Goals as goal

pub returns-in_err-append-clause-err : goal.returns-in_err-append-clause-err
returns-in_err-append-clause-err g c =
    let p = err_from_is_err_and c.from_residual.result c.from_residual.ensures.1 in
    rw p.1 (gains_front _ _ _ c.args.name.now c.args.text.now c.loop-at.at (c.loop-at.at + c.min.result - c.loop-at.at) c.loop-at.invariant.files c.in_err-append.ensures.err)

pub loop-at-preserved : goal.loop-at-preserved
loop-at-preserved g c =
    let i = c.loop-at.at in
    let e = i + c.min.result in
    let length_of : i + (e - i) ≡ e = omega arith in
    let joined : take i c.args.text.now ++ take (e - i) (drop i c.args.text.now) ≡ take e c.args.text.now = sym (take-add i (e - i) c.args.text.now) ∙ ap (λ n. take n c.args.text.now) length_of in
    record {
      within = omega arith;
      files = gains_more _ _ _ c.args.name.now c.args.text.now _ i e joined c.loop-at.invariant.files c.in_ok-append.ensures.ok;
      counts = c.in_ok-append.ensures.cause ∙ c.loop-at.invariant.counts;
    }

pub returns-clause-ok : goal.returns-clause-ok
returns-clause-ok g c = gains_all _ _ c.args.name.now c.args.text.now c.loop-at.at c.loop-at-test.false c.requires.there c.loop-at.invariant.files
