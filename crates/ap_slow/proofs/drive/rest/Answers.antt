use Rattle.std.proofs.Common.{[], refl}
use Rattle.ap_net.specs.declared.cell.Cell.TheVariants as cell
use Rattle.ap_slow.proofs.DrivenOne.{drives_cell, late_net, positive}
use Rattle.ap_slow.proofs.drive.rest.Goals as goal

pub cell-requires : goal.cell-requires
cell-requires c = record { late = c.requires.late; fits = positive c.args.to.width }

pub returns-clause-rest : goal.returns-clause-rest
returns-clause-rest c =
    let y = c.in_ok-cell.ensures in
    record { never = record { net = late_net c.args.to (cell.Const 0) c.args.out.now c.cell.new.self y.ok c.requires.late; wide = refl; means = y.value }; ready = y.drives.came }

pub returns-clause-drives : goal.returns-clause-drives
returns-clause-drives c = let y = c.in_ok-cell.ensures in drives_cell c.args.to (cell.Const 0) [] [] c.args.out.now c.cell.new.self c.requires.fresh y.ok y.drives
