use Rattle.std.proofs.Common.{length}
use Rattle.ap_enc.proofs.word.+packed.Given as goal

abbrev pub decreases-packed : goal.decreases-packed
decreases-packed l = length l.fields.now
