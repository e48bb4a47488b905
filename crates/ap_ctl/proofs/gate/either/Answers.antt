use Rattle.std.proofs.Common.{refl}
use Rattle.ap_net.specs.declared.cell.Cell.TheVariants as cell
use Rattle.ap_net.specs.declared.cell.TwoOp.TheVariants as op
use Rattle.ap_ctl.proofs.Bits.{or_tells}
use Rattle.ap_ctl.proofs.Built.{Gives-made}
use Rattle.ap_ctl.proofs.gate.either.Goals as goal

pub returns-clause-tells : goal.returns-clause-tells
returns-clause-tells c = or_tells c.in_ok-either.ensures.makes c.args.a c.args.b c.in_ok-either.either c.requires.a c.requires.b c.in_ok-either.ensures.carries

pub returns-clause-gives : goal.returns-clause-gives
returns-clause-gives c =
    let y = c.in_ok-either.ensures in
    Gives-made c.args.out.now c.make.new.self 1 (cell.Two op.Or c.args.a c.args.b) c.in_ok-either.either y.ok y.wire c.requires.fresh y.makes y.reads y.net.0 refl refl
