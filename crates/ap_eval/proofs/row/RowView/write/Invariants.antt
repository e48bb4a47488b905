use Rattle.std.proofs.Common.{◌≡◌, drop}
use Rattle.std.specs.Prelude.{slice_get}
use Rattle.ap_eval.specs.Spots.{writes_by}
use Rattle.ap_eval.proofs.row.RowView.write.Given as goal

abbrev pub invariant-loop-group : goal.invariant-loop-group
invariant-loop-group l = slice_get (writes_by l.self-inside.shown.now l.group (drop l.group l.self-inside.spots.now)) l.left ≡ slice_get (writes_by l.self-inside.shown.now 0 l.self-inside.spots.now) l.i
