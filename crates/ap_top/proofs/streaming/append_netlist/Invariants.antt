use Rattle.std.proofs.Common.{◌≡◌, ◌+◌, length, if◌then◌else◌}
use Rattle.ap_net.specs.Text.{netlist_text}
use Rattle.ap_top.proofs.Streamed.{IsStreaming}
use Rattle.ap_top.proofs.streaming.append_netlist.Given as goal

abbrev pub invariant-loop-more : goal.invariant-loop-more
invariant-loop-more g l = record {
  text : IsStreaming l.name (netlist_text l.net) (g.D.Desk.files l.fn.desk) (g.D.Desk.files l.desk) l.held.items l.printer l.more;
  counts : g.D.Desk.counts l.desk ≡ g.D.Desk.counts l.fn.desk;
}

abbrev pub decreases-loop-more : goal.decreases-loop-more
decreases-loop-more g l = length l.printer + (if l.more then 1 else 0)
