use Rattle.std.proofs.Common.{◌<◌, fold, get_or, length, sym, ap, ◌∙◌, arith}
use Rattle.std.proofs.lemmas.List.{take_all}
use Rattle.std.proofs.lemmas.List.Sums.{fold_more}
use Rattle.ap_ctl.specs.Decoding.{with_test}
use Rattle.ap_ctl.proofs.Beside.{no_test}
use Rattle.ap_ctl.proofs.field.add_tests.Goals as goal

pub loop-test-preserved : goal.loop-test-preserved
loop-test-preserved c =
    let inside : c.loop-test.test-index < length c.args.more.now = omega arith in
    c.in_ok-add_test.ensures ∙ ap (λ l. with_test l (get_or c.args.more.now c.loop-test.test-index no_test)) c.loop-test.invariant ∙ sym (fold_more with_test c.args.tests.now c.args.more.now c.loop-test.test-index no_test inside)

pub returns : goal.returns
returns c = c.loop-test.invariant ∙ ap (fold with_test c.args.tests.now) (take_all c.loop-test.test-index c.args.more.now (omega arith))
