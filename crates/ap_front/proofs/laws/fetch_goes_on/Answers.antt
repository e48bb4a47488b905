use Rattle.ap_front.proofs.Fetched.{fetched_later}
use Rattle.ap_front.proofs.laws.fetch_goes_on.Goals as goal

pub returns : goal.returns
returns c = fetched_later
