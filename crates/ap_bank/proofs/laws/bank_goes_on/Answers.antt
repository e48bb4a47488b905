use Rattle.ap_bank.proofs.BorderGiven.{bank_later}
use Rattle.ap_bank.proofs.laws.bank_goes_on.Goals as goal

pub returns : goal.returns
returns c = bank_later
