use Rattle.std.proofs.Common.{◌≡◌}
use Rattle.ap_model.specs.Cycles.{over}
use Rattle.ap_model.specs.Fitting.{CountsWithin, StateFits}
use Rattle.ap_model.specs.ShownRows.{rows_of}
use Rattle.ap_plain.proofs.run.rows.Given as goal

abbrev pub invariant-loop-j : goal.invariant-loop-j
invariant-loop-j l = record {
  state : l.state ≡ over l.design l.cards l.image l.trace l.j;
  rows : l.rows ≡ rows_of l.design l.cards l.image l.trace l.j;
  fits : StateFits l.design l.state;
  counts : CountsWithin l.j l.state;
}
