use Rattle.std.proofs.Common.{refl}
use Rattle.std.specs.Fmt.{digits}
use Rattle.ap_net.specs.Text.{clocked_text, always_line}
use Rattle.circuit_tests.proofs.net_tests.spells_an_instance.Goals as goal

pub returns : goal.returns
unfolding digits clocked_text always_line
returns c = refl
