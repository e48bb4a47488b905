use Rattle.std.proofs.Common.{◌≡◌, fold, take}
use Rattle.ap_ctl.specs.Decoding.{with_test}
use Rattle.ap_ctl.proofs.field.add_tests.Given as goal

abbrev pub invariant-loop-test : goal.invariant-loop-test
invariant-loop-test l = l.tests ≡ fold with_test l.fn.tests (take l.test-index l.more)
