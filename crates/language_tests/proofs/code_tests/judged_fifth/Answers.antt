use Rattle.std.proofs.Common.{sym, subst}
use Rattle.ap_desc.specs.Sound.{IsSound}
use Rattle.language_tests.proofs.code_tests.judged_fifth.Goals as goal

pub judge-requires : goal.judge-requires
judge-requires c = subst IsSound (sym c.in_ok-design.ensures) c.requires
