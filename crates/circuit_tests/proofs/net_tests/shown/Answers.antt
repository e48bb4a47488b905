use Rattle.circuit_tests.proofs.net_tests.shown.Goals as goal
use Rattle.ap_net.proofs.Wired.{CellFits-more}

pub cell-requires-clause-fits : goal.cell-requires-clause-fits
cell-requires-clause-fits c = rw (c.in_ok-y.ensures.wire, c.in_ok-y.ensures.ok, c.in_ok-_s.ensures.ok, c.in_ok-_b.ensures.ok, c.in_ok-_a.ensures.ok, c.in_ok-module.ensures) (CellFits-more _ _ c.args.width c.args.cell c.requires.fits)
