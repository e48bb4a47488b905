use Rattle.std.proofs.Common.{refl}
use Rattle.ap_dist.specs.Distances.{dist_of, instr_out}
use Rattle.ap_model.specs.Fire.{instr_of}
use Rattle.machine_tests.proofs.distance_rows.memories.Goals as goal

pub returns : goal.returns
unfolding dist_of instr_out instr_of
returns c = refl
