use Rattle.std.proofs.Common.{refl}
use Rattle.ap_dist.specs.Distances.{dist_of, instr_out}
use Rattle.ap_model.specs.Fire.{instr_of}
use Rattle.machine_tests.proofs.distance_rows.cells.Goals as goal

pub returns-clause-same_field : goal.returns-clause-same_field
unfolding dist_of instr_out instr_of
returns-clause-same_field c = refl

pub returns-clause-other_field : goal.returns-clause-other_field
unfolding dist_of instr_out instr_of
returns-clause-other_field c = refl

pub returns-clause-constant : goal.returns-clause-constant
unfolding dist_of instr_out instr_of
returns-clause-constant c = refl

pub returns-clause-other_constant : goal.returns-clause-other_constant
unfolding dist_of instr_out instr_of
returns-clause-other_constant c = refl

pub returns-clause-constants : goal.returns-clause-constants
unfolding dist_of instr_out instr_of
returns-clause-constants c = refl

pub returns-clause-computed : goal.returns-clause-computed
unfolding dist_of instr_out instr_of
returns-clause-computed c = refl

pub returns-clause-greatest : goal.returns-clause-greatest
unfolding dist_of instr_out instr_of
returns-clause-greatest c = refl

pub returns-clause-other_pair : goal.returns-clause-other_pair
unfolding dist_of instr_out instr_of
returns-clause-other_pair c = refl

pub returns-clause-out : goal.returns-clause-out
unfolding dist_of instr_out instr_of
returns-clause-out c = refl
