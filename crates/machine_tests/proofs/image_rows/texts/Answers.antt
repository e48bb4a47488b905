use Rattle.std.proofs.Common.{refl}
use Rattle.std.specs.Fmt.{digits}
use Rattle.machine_tests.proofs.image_rows.texts.Goals as goal

pub returns : goal.returns
unfolding digits
returns c = record { run = refl; two = refl; stall = refl; both = refl }
