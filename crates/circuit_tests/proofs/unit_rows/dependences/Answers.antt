use Rattle.std.proofs.Common.{◌||◌, refl}
use Rattle.std.specs.Prelude.{◌==◌}
use Rattle.circuit_tests.specs.UnitRows.{below_4}
use Rattle.circuit_tests.proofs.unit_rows.dependences.Goals as goal

pub returns-clause-last : goal.returns-clause-last
returns-clause-last c = (below_4, record { itself = refl; closed = (λ h. (refl, (refl, tt)), (λ h. (refl, tt), tt)) }, (refl, (refl, tt)))

pub returns-clause-middle : goal.returns-clause-middle
returns-clause-middle c = (λ n. n == 3 || n == 1, record { itself = refl; closed = (λ h. cc, (λ h. (refl, tt), tt)) }, (refl, (refl, tt)))
