use Rattle.std.proofs.Common.{get_or}
use Rattle.ap_ports.proofs.Sets.{row_has}
use Rattle.ap_ports.proofs.ways.Ways.leads.Goals as goal

pub returns : goal.returns
returns c = row_has (get_or c.args.self.now.rows c.args.from 0) c.args.among c.ranges.among.fits
