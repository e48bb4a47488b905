use Rattle.ap_commit.proofs.Stands.{joined_ports_show}
use Rattle.ap_commit.proofs.laws.joined_ports_show.Goals as goal

pub returns : goal.returns
returns c = joined_ports_show
