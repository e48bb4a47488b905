use Rattle.ap_dist.proofs.Bounds.{before_write_apart, write_read_apart}
use Rattle.ap_dist.proofs.laws.conflicts_are_kept_apart.Goals as goal

pub returns-clause-write_read : goal.returns-clause-write_read
returns-clause-write_read c = write_read_apart

pub returns-clause-read_write : goal.returns-clause-read_write
returns-clause-read_write c = before_write_apart
