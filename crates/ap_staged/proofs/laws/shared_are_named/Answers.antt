use Rattle.ap_staged.proofs.Shared.{driven_named, shared_named}
use Rattle.ap_staged.proofs.laws.shared_are_named.Goals as goal

pub returns-clause-banked : goal.returns-clause-banked
returns-clause-banked c = shared_named

pub returns-clause-driven : goal.returns-clause-driven
returns-clause-driven c = driven_named
