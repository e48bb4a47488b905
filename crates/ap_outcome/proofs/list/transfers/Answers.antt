use Rattle.ap_outcome.proofs.Later.{no_index}
use Rattle.ap_outcome.proofs.list.transfers.Goals as goal

pub as_transfers-requires : goal.as_transfers-requires
as_transfers-requires c = record { none = rw c.as_slice.ensures (no_index _ c.args.ground.now c.args.courses.now c.args.lines.now _ c.in_ok-made.ensures.writers.each c.requires.none) }
