use Rattle.std.proofs.Common.{refl}
use Rattle.ap_net.specs.declared.cell.Cell.TheVariants as cell
use Rattle.ap_net.specs.declared.cell.TwoOp.TheVariants as op
use Rattle.ap_ctl.proofs.Bits.{or_tells}
use Rattle.ap_stage.proofs.Wired.{wiring_made}
use Rattle.ap_effect.proofs.gate.either.Goals as goal

pub returns-clause-tells : goal.returns-clause-tells
returns-clause-tells c = let net = c.in_ok-either.ensures in or_tells net.makes c.args.a c.args.b c.in_ok-either.either c.requires.a c.requires.b net.carries

pub returns-clause-wiring : goal.returns-clause-wiring
returns-clause-wiring c =
    let net = c.in_ok-either.ensures in
    wiring_made c.args.out.now c.make.new.self _ (cell.Two op.Or c.args.a c.args.b) c.in_ok-either.either net.makes net.reads net.ok net.wire net.net.0 refl
