use Rattle.std.proofs.Common.{◌∷◌, [], sym}
use Rattle.ap_net.specs.declared.cell.Cell.TheVariants as cell
use Rattle.ap_bank.proofs.Joined.{wires_cell, late_on}
use Rattle.ap_bank.proofs.join.join.Goals as goal

pub cell-requires : goal.cell-requires
cell-requires c = record { late = c.requires.late; fits = (c.requires.net, sym c.requires.same) }

pub returns : goal.returns
returns c =
    let y = c.in_ok-cell.ensures in
    record {
      copy = record { carries = record { net = late_on c.args.to (cell.Copy c.args.from) c.args.out.now c.cell.new.self y.ok c.requires.late; wide = c.requires.same; means = y.value }; came = y.drives.came };
      wires = wires_cell c.args.to (cell.Copy c.args.from) (c.args.from.number ∷ []) c.args.out.now c.cell.new.self y.ok y.drives;
    }
