use Rattle.ap_bank.proofs.BankedGiven.{banked_placed}
use Rattle.ap_bank.proofs.laws.banked_files_are_placed.Goals as goal

pub returns : goal.returns
returns c = banked_placed
