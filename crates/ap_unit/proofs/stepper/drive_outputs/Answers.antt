use Rattle.ap_unit.proofs.Begun.{late_y, fits_y}
use Rattle.ap_unit.proofs.stepper.drive_outputs.Goals as goal

pub cell-requires-2-clause-late : goal.cell-requires-2-clause-late
cell-requires-2-clause-late c = rw (c.in_ok-cell.ensures.ok, c.requires.limit, c.requires.ports, c.requires.running)
    (late_y c.args.out.now.name c.args.ports.y.width c.args.k c.requires.low c.requires.high)

pub cell-requires-2-clause-fits : goal.cell-requires-2-clause-fits
cell-requires-2-clause-fits c = rw (c.in_ok-cell.ensures.ok, c.requires.limit, c.requires.ports, c.requires.held)
    (fits_y c.args.out.now.name c.args.ports.y.width c.args.k c.requires.low c.requires.high)
