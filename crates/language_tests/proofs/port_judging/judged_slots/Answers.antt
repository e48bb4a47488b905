use Rattle.std.proofs.Common.{subst, sym}
use Rattle.ap_desc.specs.Sound.{IsSound}
use Rattle.language_tests.proofs.port_judging.judged_slots.Goals as goal

pub judge-requires : goal.judge-requires
judge-requires c = subst IsSound (sym c.in_ok-design.ensures) c.requires
