use Rattle.ap_ports.proofs.Conditions.{first_chain, first_shown, is_shown}
use Rattle.ap_ports.proofs.first.first_line.Goals as goal

pub returns-in-ChainLoop : goal.returns-in-ChainLoop
returns-in-ChainLoop c = first_chain c.args.design.now c.args.kind c.first_loop.result c.in-ChainLoop.is c.first_loop.ensures

pub returns-in_default : goal.returns-in_default
returns-in_default c =
    first_shown c.args.design.now c.requires.sound c.args.kind (is_shown c.args.kind c.in_default.not-ChainLoop c.in_default.not-TooManySlots) c.first_in_instrs.result c.first_in_instrs.ensures
