use Rattle.ap_desc.proofs.ReadOnce.{read_once}
use Rattle.ap_desc.proofs.laws.reading_is_unique.Goals as goal

pub returns : goal.returns
returns c = read_once
