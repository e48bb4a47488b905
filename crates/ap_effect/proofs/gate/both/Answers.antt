use Rattle.std.proofs.Common.{refl}
use Rattle.ap_net.specs.declared.cell.Cell.TheVariants as cell
use Rattle.ap_net.specs.declared.cell.TwoOp.TheVariants as op
use Rattle.ap_ctl.proofs.Bits.{and_tells}
use Rattle.ap_stage.proofs.Wired.{wiring_made}
use Rattle.ap_effect.proofs.gate.both.Goals as goal

pub returns-clause-tells : goal.returns-clause-tells
returns-clause-tells c = let net = c.in_ok-both.ensures in and_tells net.makes c.args.a c.args.b c.in_ok-both.both c.requires.a c.requires.b net.carries

pub returns-clause-wiring : goal.returns-clause-wiring
returns-clause-wiring c =
    let net = c.in_ok-both.ensures in
    wiring_made c.args.out.now c.make.new.self _ (cell.Two op.And c.args.a c.args.b) c.in_ok-both.both net.makes net.reads net.ok net.wire net.net.0 refl
