use Rattle.ap_desc.proofs.Growing.{declared_by_then, declared_grows, scope_grows}
use Rattle.ap_desc.proofs.laws.descriptions_grow.Goals as goal

pub returns-clause-whole : goal.returns-clause-whole
returns-clause-whole c = declared_by_then

pub returns-clause-declared : goal.returns-clause-declared
returns-clause-declared c = declared_grows

pub returns-clause-scope : goal.returns-clause-scope
returns-clause-scope c = scope_grows
