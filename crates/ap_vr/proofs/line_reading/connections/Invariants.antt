use Rattle.std.proofs.Common.{◌≡◌, length}
use Rattle.std.specs.List.{AllByRecursion as Each}
use Rattle.ap_vr.specs.LineForms.{connections_in}
use Rattle.ap_vr.specs.LineTexts.{IsConnection}
use Rattle.ap_vr.specs.Pieces.{texts}
use Rattle.ap_vr.proofs.Joins.{joined_after}
use Rattle.ap_vr.proofs.line_reading.connections.Given as goal

abbrev pub invariant-loop-rest : goal.invariant-loop-rest
invariant-loop-rest l = record {
  found : connections_in (texts l.pieces) ≡ joined_after l.connections (connections_in (texts l.rest));
  rules : Each IsConnection l.connections;
}

abbrev pub decreases-loop-rest : goal.decreases-loop-rest
decreases-loop-rest l = length l.rest
