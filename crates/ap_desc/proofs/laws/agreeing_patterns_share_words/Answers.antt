use Rattle.ap_desc.proofs.Patterns.{pattern_lies, patterns_agree_or_not}
use Rattle.ap_desc.proofs.laws.agreeing_patterns_share_words.Goals as goal

pub returns-clause-lies : goal.returns-clause-lies
returns-clause-lies c = pattern_lies

pub returns-clause-shares : goal.returns-clause-shares
returns-clause-shares c = patterns_agree_or_not
