use Rattle.ap_vr.specs.Pieces.{texts}
use Rattle.ap_vr.proofs.Pieces.{PiecesSoFar}
use Rattle.ap_vr.proofs.piece.pieces.Given as goal

abbrev pub invariant-loop-at : goal.invariant-loop-at
invariant-loop-at l = PiecesSoFar l.line (texts l.pieces.items) l.from l.at
