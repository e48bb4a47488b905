use Rattle.ap_plain.proofs.MachineFits.{transfer_fits}
use Rattle.ap_plain.proofs.cycle.taken_transfer.Goals as goal

pub fire-requires-clause-flight : goal.fire-requires-clause-flight
fire-requires-clause-flight c = transfer_fits c.args.design.now c.args.cards.now c.args.state.now c.in-Some.flight.now c.requires.design c.requires.state c.in-Some.ensures
