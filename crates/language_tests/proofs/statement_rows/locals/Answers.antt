use Rattle.std.proofs.Common.{refl, sym, ap, lit<, ◌++◌}
use Rattle.std.proofs.lemmas.Fmt.{decimal_digit}
use Rattle.std.specs.Prelude.{codes}
use Rattle.ap_text.specs.Numbers.{number_value, spelled_value}
use Rattle.language_tests.proofs.statement_rows.locals.Goals as goal

pub returns-clause-compute : goal.returns-clause-compute
unfolding number_value spelled_value
returns-clause-compute c = record {
  spellable = record { pieces = refl };
  spelled = ((codes "2", refl, refl), (refl, (refl, (refl, (refl, (refl, tt))))));
}

pub returns-clause-compute_like_port : goal.returns-clause-compute_like_port
unfolding number_value spelled_value
returns-clause-compute_like_port c = record {
  spellable = record { pieces = refl };
  spelled = ((codes "1", refl, refl), (refl, (refl, (refl, (refl, (refl, tt))))));
}

pub returns-clause-read_file : goal.returns-clause-read_file
unfolding number_value spelled_value
returns-clause-read_file c = record {
  spellable = record { pieces = refl };
  spelled = ((codes "1", refl, refl), (refl, (refl, (ap (λ d. codes "GPR.r" ++ d) (sym (decimal_digit 0 (lit< tt))), (refl, tt)))));
}

pub returns-clause-read_register : goal.returns-clause-read_register
unfolding number_value spelled_value
returns-clause-read_register c = record {
  spellable = record { pieces = refl };
  spelled = ((codes "1", refl, refl), (refl, (refl, (refl, tt))));
}

pub returns-clause-read_memory : goal.returns-clause-read_memory
unfolding number_value spelled_value
returns-clause-read_memory c = record {
  spellable = record { pieces = refl };
  spelled = ((codes "2", refl, refl), (refl, (refl, (refl, (refl, tt)))));
}

pub returns-clause-read_input : goal.returns-clause-read_input
unfolding number_value spelled_value
returns-clause-read_input c = record {
  spellable = record { pieces = refl };
  spelled = ((codes "2", refl, refl), (refl, (refl, (refl, (refl, tt)))));
}

pub returns-clause-constant : goal.returns-clause-constant
unfolding number_value spelled_value
returns-clause-constant c = record {
  spellable = record { pieces = refl };
  spelled = ((codes "1", refl, refl), (refl, (refl, (refl, ((codes "16", refl, refl), ((codes "0", refl, refl), tt))))));
}

pub returns-clause-zext : goal.returns-clause-zext
unfolding number_value spelled_value
returns-clause-zext c = record {
  spellable = record { pieces = refl };
  spelled = ((codes "3", refl, refl), (refl, (refl, (refl, ((codes "16", refl, refl), (refl, tt))))));
}

pub returns-clause-sext : goal.returns-clause-sext
unfolding number_value spelled_value
returns-clause-sext c = record {
  spellable = record { pieces = refl };
  spelled = ((codes "1", refl, refl), (refl, (refl, (refl, ((codes "16", refl, refl), (refl, tt))))));
}

pub returns-clause-slice : goal.returns-clause-slice
unfolding number_value spelled_value
returns-clause-slice c = record {
  spellable = record { pieces = refl };
  spelled = ((codes "2", refl, refl), (refl, (refl, (refl, ((codes "7", refl, refl), ((codes "0", refl, refl), (refl, tt)))))));
}

pub returns-clause-cat : goal.returns-clause-cat
unfolding number_value spelled_value
returns-clause-cat c = record {
  spellable = record { pieces = refl };
  spelled = ((codes "2", refl, refl), (refl, (refl, (refl, (refl, (refl, tt))))));
}
