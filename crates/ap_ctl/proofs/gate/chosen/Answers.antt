use Rattle.std.proofs.Common.{refl}
use Rattle.ap_net.specs.declared.cell.Cell.TheVariants as cell
use Rattle.ap_ctl.proofs.Bits.{choice_tells}
use Rattle.ap_ctl.proofs.Built.{Gives-made}
use Rattle.ap_ctl.proofs.gate.chosen.Goals as goal

pub returns-clause-tells : goal.returns-clause-tells
returns-clause-tells c = choice_tells c.in_ok-chosen.ensures.makes c.args.s c.args.a c.args.b c.in_ok-chosen.chosen c.requires.a c.requires.b c.in_ok-chosen.ensures.carries

pub returns-clause-gives : goal.returns-clause-gives
returns-clause-gives c =
    let y = c.in_ok-chosen.ensures in
    Gives-made c.args.out.now c.make.new.self 1 (cell.Choose c.args.s c.args.a c.args.b) c.in_ok-chosen.chosen y.ok y.wire c.requires.fresh y.makes y.reads y.net.0 refl refl
