use Rattle.ap_flat.proofs.Betweens.{named_between}
use Rattle.ap_flat.proofs.between.name_between.Goals as goal

pub returns-in_default-clause-none : goal.returns-in_default-clause-none
returns-in_default-clause-none c = λ m named there. c.in_default.ensures.none m there

pub returns-clause-some : goal.returns-clause-some
returns-clause-some c = (named_between c.args.text.now c.args.before.now c.args.after.now c.in-Some.middle.now c.in_ok-name.name c.in-Some.ensures.some c.in_ok-name.ensures).0

pub returns-clause-none : goal.returns-clause-none
returns-clause-none c = (named_between c.args.text.now c.args.before.now c.args.after.now c.in-Some.middle.now c.in_ok-name.name c.in-Some.ensures.some c.in_ok-name.ensures).1
