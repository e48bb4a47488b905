use Rattle.std.proofs.Common.{refl}
use Rattle.ap_dist.specs.Distances.{dist_of, instr_out}
use Rattle.ap_model.specs.Fire.{instr_of}
use Rattle.machine_tests.proofs.distance_rows.words_of_the_processor.Goals as goal

pub returns-clause-read : goal.returns-clause-read
unfolding dist_of instr_out instr_of
returns-clause-read c = refl

pub returns-clause-turned : goal.returns-clause-turned
unfolding dist_of instr_out instr_of
returns-clause-turned c = refl

pub returns-clause-other_cell : goal.returns-clause-other_cell
unfolding dist_of instr_out instr_of
returns-clause-other_cell c = refl

pub returns-clause-store_load : goal.returns-clause-store_load
unfolding dist_of instr_out instr_of
returns-clause-store_load c = refl

pub returns-clause-load_store : goal.returns-clause-load_store
unfolding dist_of instr_out instr_of
returns-clause-load_store c = refl

pub returns-clause-nothing : goal.returns-clause-nothing
unfolding dist_of instr_out instr_of
returns-clause-nothing c = refl

pub returns-clause-from_nothing : goal.returns-clause-from_nothing
unfolding dist_of instr_out instr_of
returns-clause-from_nothing c = refl

pub returns-clause-out : goal.returns-clause-out
unfolding dist_of instr_out instr_of
returns-clause-out c = refl

pub returns-clause-out_of_store : goal.returns-clause-out_of_store
unfolding dist_of instr_out instr_of
returns-clause-out_of_store c = refl

pub returns-clause-out_of_nothing : goal.returns-clause-out_of_nothing
unfolding dist_of instr_out instr_of
returns-clause-out_of_nothing c = refl
