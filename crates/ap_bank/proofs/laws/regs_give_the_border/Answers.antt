use Rattle.ap_bank.proofs.BorderGiven.{regs_give_border}
use Rattle.ap_bank.proofs.laws.regs_give_the_border.Goals as goal

pub returns : goal.returns
returns c = regs_give_border
