use Rattle.std.proofs.Common.{arith}
use Rattle.std.proofs.lemmas.List.{length-map}
use Rattle.ap_top.proofs.Additions.{none_more, none_of_all, other_name}
use Rattle.ap_top.proofs.addition.operation_named.Goals as goal

pub loop-i-init : goal.loop-i-init
loop-i-init g c = λ j lt e. omega arith

pub loop-i-preserved : goal.loop-i-preserved
loop-i-preserved g c = none_more _ _ _ c.loop-i.i c.loop-i.invariant c.op_name.ensures (other_name _ _ _ c.eq.ensures c.if-eq.false)

pub returns-clause-none : goal.returns-clause-none
returns-clause-none g c = none_of_all _ _ c.loop-i.i (simp length-map (omega (arith, c.op_count-i-end.ensures, c.loop-i-test.false))) c.loop-i.invariant
