use Rattle.std.proofs.Common.{◌≡◌, ◌+◌, if◌then◌else◌}
use Rattle.ap_sim.specs.RowLines.{count_left}
use Rattle.ap_top.proofs.ShownRows.{IsShowing}
use Rattle.ap_top.proofs.showing.append_rows.Given as goal

abbrev pub invariant-loop-more : goal.invariant-loop-more
invariant-loop-more g l = record {
  text : IsShowing l.name (g.D.Desk.files l.fn.desk) (g.D.Desk.files l.desk) l.held.items l.fn.rows l.rows l.more;
  counts : g.D.Desk.counts l.desk ≡ g.D.Desk.counts l.fn.desk;
}

abbrev pub decreases-loop-more : goal.decreases-loop-more
decreases-loop-more g l = count_left l.rows + (if l.more then 1 else 0)
