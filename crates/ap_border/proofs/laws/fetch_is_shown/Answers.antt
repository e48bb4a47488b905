use Rattle.ap_border.proofs.FetchShown.{fetch_is_shown, fetch_starts}
use Rattle.ap_border.proofs.laws.fetch_is_shown.Goals as goal

pub returns-clause-goes : goal.returns-clause-goes
returns-clause-goes c = fetch_is_shown

pub returns-clause-starts : goal.returns-clause-starts
returns-clause-starts c = fetch_starts
