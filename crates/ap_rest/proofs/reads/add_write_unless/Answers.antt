use Rattle.ap_rest.proofs.Listed.{unless_three}
use Rattle.ap_rest.proofs.reads.add_write_unless.Goals as goal

pub returns : goal.returns
returns c = unless_three c.args.used c.args.port.enable c.args.port.address c.args.port.value c.args.nets.now c.add_unless.new.nets c.add_unless-2.new.nets c.add_unless-3.new.nets c.in_ok-add_unless.ensures c.in_ok-add_unless-2.ensures c.in_ok-add_unless-3.ensures
