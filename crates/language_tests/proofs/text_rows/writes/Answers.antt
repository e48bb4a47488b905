use Rattle.std.proofs.Common.{refl}
use Rattle.std.specs.Fmt.{digits}
use Rattle.language_tests.proofs.text_rows.writes.Goals as goal

pub returns : goal.returns
unfolding digits
returns c = record {
  decimal_zero = refl;
  decimal_ten = refl;
  decimal_largest = refl;
  zero = refl;
  sixteen = refl;
  word = refl;
  largest = refl;
}
