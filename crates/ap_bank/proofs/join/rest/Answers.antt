use Rattle.std.proofs.Common.{[], refl}
use Rattle.ap_net.specs.declared.cell.Cell.TheVariants as cell
use Rattle.ap_bank.proofs.Joined.{late_on, positive, wires_cell}
use Rattle.ap_bank.proofs.join.rest.Goals as goal

pub cell-requires : goal.cell-requires
cell-requires c = record { late = c.requires; fits = positive c.args.to.width }

pub returns : goal.returns
returns c =
    let y = c.in_ok-cell.ensures in
    record {
      rest = record { never = record { net = late_on c.args.to (cell.Const 0) c.args.out.now c.cell.new.self y.ok c.requires; wide = refl; means = y.value }; came = y.drives.came };
      wires = wires_cell c.args.to (cell.Const 0) [] c.args.out.now c.cell.new.self y.ok y.drives;
    }
