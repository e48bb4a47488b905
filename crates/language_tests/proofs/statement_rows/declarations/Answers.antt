use Rattle.std.proofs.Common.{refl}
use Rattle.std.specs.Prelude.{codes}
use Rattle.ap_text.specs.Numbers.{number_value, spelled_value}
use Rattle.language_tests.proofs.statement_rows.declarations.Goals as goal

pub returns-clause-stages : goal.returns-clause-stages
unfolding number_value spelled_value
returns-clause-stages c = record {
  spellable = record { pieces = refl };
  spelled = (refl, ((codes "4", refl, refl), tt));
}

pub returns-clause-address : goal.returns-clause-address
unfolding number_value spelled_value
returns-clause-address c = record {
  spellable = record { pieces = refl };
  spelled = (refl, ((codes "0x06", refl, refl), tt));
}

pub returns-clause-word : goal.returns-clause-word
unfolding number_value spelled_value
returns-clause-word c = record {
  spellable = record { pieces = refl };
  spelled = (refl, ((codes "16", refl, refl), tt));
}

pub returns-clause-transfer : goal.returns-clause-transfer
unfolding number_value spelled_value
returns-clause-transfer c = record {
  spellable = record { pieces = refl };
  spelled = (refl, ((codes "2", refl, refl), ((codes "1", refl, refl), tt)));
}

pub returns-clause-reg : goal.returns-clause-reg
unfolding number_value spelled_value
returns-clause-reg c = record {
  spellable = record { pieces = refl };
  spelled = (refl, (refl, ((codes "16", refl, refl), ((codes "0xff", refl, refl), tt))));
}

pub returns-clause-file : goal.returns-clause-file
unfolding number_value spelled_value
returns-clause-file c = record {
  spellable = record { pieces = refl };
  spelled = (refl, (refl, ((codes "16", refl, refl), ((codes "8", refl, refl), ((codes "2", refl, refl), ((codes "1", refl, refl), tt))))));
}

pub returns-clause-mem : goal.returns-clause-mem
unfolding number_value spelled_value
returns-clause-mem c = record {
  spellable = record { pieces = refl };
  spelled = (refl, (refl, ((codes "8", refl, refl), ((codes "16", refl, refl), tt))));
}

pub returns-clause-input : goal.returns-clause-input
unfolding number_value spelled_value
returns-clause-input c = record {
  spellable = record { pieces = refl };
  spelled = (refl, (refl, ((codes "16", refl, refl), tt)));
}

pub returns-clause-resource : goal.returns-clause-resource
unfolding number_value spelled_value
returns-clause-resource c = record {
  spellable = record { pieces = refl };
  spelled = (refl, (refl, (refl, ((codes "16", refl, refl), tt))));
}

pub returns-clause-format : goal.returns-clause-format
unfolding number_value spelled_value
returns-clause-format c = record {
  spellable = record { pieces = refl };
  spelled = (refl, (refl, ((codes "4", refl, refl), ((codes "0x3", refl, refl), tt))));
}
