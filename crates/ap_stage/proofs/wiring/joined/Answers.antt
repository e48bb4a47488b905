use Rattle.std.proofs.Common.{refl, arith}
use Rattle.ap_net.specs.declared.cell.Cell.TheVariants as cell
use Rattle.ap_stage.proofs.Wired.{wiring_made}
use Rattle.ap_stage.proofs.wiring.joined.Goals as goal

pub make-requires-clause-low : goal.make-requires-clause-low
make-requires-clause-low c = let low = c.requires.a.low in omega arith

pub make-requires-clause-fits : goal.make-requires-clause-fits
make-requires-clause-fits c = (c.requires.a, c.requires.b, refl)

pub returns-clause-carries : goal.returns-clause-carries
returns-clause-carries c = c.in_ok-all.ensures.carries

pub returns-clause-wiring : goal.returns-clause-wiring
returns-clause-wiring c =
    let all = c.in_ok-all.ensures in
    wiring_made c.args.out.now c.make.new.self _ (cell.Cat c.args.a c.args.b) c.in_ok-all.all all.makes all.reads all.ok all.wire all.net.0 refl
