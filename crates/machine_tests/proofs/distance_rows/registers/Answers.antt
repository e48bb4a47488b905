use Rattle.std.proofs.Common.{refl}
use Rattle.ap_dist.specs.Distances.{dist_of, instr_out}
use Rattle.ap_model.specs.Fire.{instr_of}
use Rattle.machine_tests.proofs.distance_rows.registers.Goals as goal

pub returns-clause-write_read : goal.returns-clause-write_read
unfolding dist_of instr_out instr_of
returns-clause-write_read c = refl

pub returns-clause-read_write : goal.returns-clause-read_write
unfolding dist_of instr_out instr_of
returns-clause-read_write c = refl

pub returns-clause-write_write : goal.returns-clause-write_write
unfolding dist_of instr_out instr_of
returns-clause-write_write c = refl

pub returns-clause-reads : goal.returns-clause-reads
unfolding dist_of instr_out instr_of
returns-clause-reads c = refl

pub returns-clause-guarded : goal.returns-clause-guarded
unfolding dist_of instr_out instr_of
returns-clause-guarded c = refl
