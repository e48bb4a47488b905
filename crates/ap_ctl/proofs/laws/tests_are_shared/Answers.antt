use Rattle.ap_ctl.proofs.Tests.{none_twice}
use Rattle.ap_ctl.proofs.laws.tests_are_shared.Goals as goal

pub returns : goal.returns
returns c = none_twice
