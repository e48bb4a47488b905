use Rattle.ap_flat.proofs.Betweens.{between_before, between_rest}
use Rattle.ap_flat.proofs.between.between.Goals as goal

pub returns-in_default-clause-none : goal.returns-in_default-clause-none
returns-in_default-clause-none c = between_before c.args.text.now c.args.before.now c.args.after.now (rw c.in_default.is at c.after_start.ensures)

pub returns-clause-some : goal.returns-clause-some
returns-clause-some c = (between_rest c.args.text.now c.args.before.now c.args.after.now c.in-Some.rest.now c.before_end.result (rw c.in-Some.is at c.after_start.ensures) c.before_end.ensures).0

pub returns-clause-none : goal.returns-clause-none
returns-clause-none c = (between_rest c.args.text.now c.args.before.now c.args.after.now c.in-Some.rest.now c.before_end.result (rw c.in-Some.is at c.after_start.ensures) c.before_end.ensures).1
