use Rattle.std.proofs.Common.{refl, arith}
use Rattle.std.proofs.lemmas.Fmt.{decimal_digit}
use Rattle.flight_tests.proofs.rows.registers_of_a_stage.Goals as goal

pub returns-clause-plan : goal.returns-clause-plan
returns-clause-plan c = rw (decimal_digit 2 (omega arith), decimal_digit 0 (omega arith), decimal_digit 1 (omega arith)) refl
