use Rattle.std.proofs.Common.{refl, sym, ap, lit<, ◌++◌}
use Rattle.std.proofs.lemmas.Fmt.{decimal_digit}
use Rattle.std.specs.Prelude.{codes}
use Rattle.ap_text.specs.Numbers.{number_value, spelled_value}
use Rattle.language_tests.proofs.statement_rows.instructions.Goals as goal

pub returns-clause-instr : goal.returns-clause-instr
unfolding number_value spelled_value
returns-clause-instr c = record {
  spellable = record { pieces = refl };
  spelled = (refl, (refl, (refl, ((codes "1", refl, refl), tt))));
}

pub returns-clause-free_instr : goal.returns-clause-free_instr
unfolding number_value spelled_value
returns-clause-free_instr c = record {
  spellable = record { pieces = refl };
  spelled = (refl, (refl, (refl, tt)));
}

pub returns-clause-write_file : goal.returns-clause-write_file
unfolding number_value spelled_value
returns-clause-write_file c = record {
  spellable = record { pieces = refl };
  spelled = ((codes "3", refl, refl), (ap (λ d. codes "GPR.w" ++ d) (sym (decimal_digit 1 (lit< tt))), (refl, (refl, tt))));
}

pub returns-clause-write_register : goal.returns-clause-write_register
unfolding number_value spelled_value
returns-clause-write_register c = record {
  spellable = record { pieces = refl };
  spelled = ((codes "1", refl, refl), (refl, (refl, (refl, tt))));
}

pub returns-clause-write_memory : goal.returns-clause-write_memory
unfolding number_value spelled_value
returns-clause-write_memory c = record {
  spellable = record { pieces = refl };
  spelled = ((codes "2", refl, refl), (refl, (refl, (refl, tt))));
}

pub returns-clause-guarded_file : goal.returns-clause-guarded_file
unfolding number_value spelled_value
returns-clause-guarded_file c = record {
  spellable = record { pieces = refl };
  spelled = ((codes "3", refl, refl), (ap (λ d. codes "GPR.w" ++ d) (sym (decimal_digit 0 (lit< tt))), (refl, (refl, (refl, (refl, tt))))));
}

pub returns-clause-guarded_register : goal.returns-clause-guarded_register
unfolding number_value spelled_value
returns-clause-guarded_register c = record {
  spellable = record { pieces = refl };
  spelled = ((codes "1", refl, refl), (refl, (refl, (refl, (refl, (refl, tt))))));
}

pub returns-clause-guarded_memory : goal.returns-clause-guarded_memory
unfolding number_value spelled_value
returns-clause-guarded_memory c = record {
  spellable = record { pieces = refl };
  spelled = ((codes "2", refl, refl), (refl, (refl, (refl, (refl, (refl, tt))))));
}

pub returns-clause-branch : goal.returns-clause-branch
unfolding number_value spelled_value
returns-clause-branch c = record {
  spellable = record { pieces = refl };
  spelled = ((codes "2", refl, refl), (refl, (refl, (refl, tt))));
}

pub returns-clause-jump : goal.returns-clause-jump
unfolding number_value spelled_value
returns-clause-jump c = record {
  spellable = record { pieces = refl };
  spelled = ((codes "2", refl, refl), (refl, (refl, tt)));
}

pub returns-clause-done : goal.returns-clause-done
unfolding number_value spelled_value
returns-clause-done c = record {
  spellable = record { pieces = refl };
  spelled = (refl, tt);
}
