use Rattle.std.proofs.Common.{◌≡◌, ◌+◌, ◌-◌, ◌≤◌, vec_len}
use Rattle.ap_desk.proofs.Whole.{FrontWhereTold}
use Rattle.ap_desk.proofs.pieces.read_all.Given as goal

abbrev pub invariant-loop-piece : goal.invariant-loop-piece
invariant-loop-piece g l = record {
  bound : vec_len l.bytes ≤ l.limit + 4096;
  same : g.D.Desk.files l.desk ≡ g.D.Desk.files l.fn.desk;
  front : FrontWhereTold (g.D.Desk.files l.fn.desk) l.name l.bytes.items;
  counts : g.D.Desk.counts l.desk ≡ g.D.Desk.counts l.fn.desk;
}

abbrev pub decreases-loop-piece : goal.decreases-loop-piece
decreases-loop-piece g l = l.limit + 1 - vec_len l.bytes
