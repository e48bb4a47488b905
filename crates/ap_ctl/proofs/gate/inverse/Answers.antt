use Rattle.std.proofs.Common.{refl}
use Rattle.ap_net.specs.declared.cell.Cell.TheVariants as cell
use Rattle.ap_ctl.proofs.Bits.{not_tells}
use Rattle.ap_ctl.proofs.Built.{Gives-made}
use Rattle.ap_ctl.proofs.gate.inverse.Goals as goal

pub returns-clause-tells : goal.returns-clause-tells
returns-clause-tells c = not_tells c.in_ok-inverse.ensures.makes c.args.a c.in_ok-inverse.inverse c.requires.a c.in_ok-inverse.ensures.carries

pub returns-clause-gives : goal.returns-clause-gives
returns-clause-gives c =
    let y = c.in_ok-inverse.ensures in
    Gives-made c.args.out.now c.make.new.self 1 (cell.Not c.args.a) c.in_ok-inverse.inverse y.ok y.wire c.requires.fresh y.makes y.reads y.net.0 refl refl
