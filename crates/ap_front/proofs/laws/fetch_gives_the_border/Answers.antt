use Rattle.ap_front.proofs.Fetched.{fetch_gives_border}
use Rattle.ap_front.proofs.laws.fetch_gives_the_border.Goals as goal

pub returns : goal.returns
returns c = fetch_gives_border
