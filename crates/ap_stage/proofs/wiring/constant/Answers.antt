use Rattle.std.proofs.Common.{refl}
use Rattle.ap_net.specs.declared.cell.Cell.TheVariants as cell
use Rattle.ap_stage.proofs.Wired.{wiring_made}
use Rattle.ap_stage.proofs.wiring.constant.Goals as goal

pub returns-clause-carries : goal.returns-clause-carries
returns-clause-carries c = c.in_ok-net.ensures.carries

pub returns-clause-wiring : goal.returns-clause-wiring
returns-clause-wiring c =
    let net = c.in_ok-net.ensures in
    wiring_made c.args.out.now c.make.new.self _ (cell.Const c.args.value) c.in_ok-net.net net.makes net.reads net.ok net.wire net.net.0 refl
