use Rattle.std.proofs.Common.{◌≡◌, ◌-◌, ◌≤◌, length}
use Rattle.ap_desk.specs.Files.{Goes}
use Rattle.ap_desk.proofs.Steps.{GainsSoFar}
use Rattle.ap_desk.proofs.pieces.append_all.Given as goal

abbrev pub invariant-loop-at : goal.invariant-loop-at
invariant-loop-at g l = record {
  within : l.at ≤ length l.text;
  files : Goes (GainsSoFar l.name l.text l.at) (g.D.Desk.files l.fn.desk) (g.D.Desk.files l.desk);
  counts : g.D.Desk.counts l.desk ≡ g.D.Desk.counts l.fn.desk;
}

abbrev pub decreases-loop-at : goal.decreases-loop-at
decreases-loop-at g l = length l.initial.text - l.at
