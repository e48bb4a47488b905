use Rattle.std.proofs.Common.{◌≡◌, ◌+◌, ◌≤◌, length, drop}
use Rattle.ap_eval.specs.Spots.{writes_by}
use Rattle.ap_eval.proofs.row.RowView.count.Given as goal

abbrev pub invariant-loop-spot : goal.invariant-loop-spot
invariant-loop-spot l = record {
  few : l.count ≤ l.spot-index;
  same : l.count + length (writes_by l.self-inside.shown.now l.spot-index (drop l.spot-index l.self-inside.spots.now)) ≡ length (writes_by l.self-inside.shown.now 0 l.self-inside.spots.now);
}
