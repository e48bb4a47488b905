use Rattle.std.proofs.Common.{◌≡◌, ℕ, ◌<◌, ◌≤◌, get_or}
use Rattle.ap_ports.specs.Ways.{joined}
use Rattle.ap_ports.proofs.ways.join.Given as goal

abbrev pub invariant-loop-row : goal.invariant-loop-row
invariant-loop-row l = record {
  done : (k : ℕ) → k < l.row-index → get_or l.rows k 0 ≡ joined l.sources l.behind (get_or l.initial.rows k 0);
  rest : (k : ℕ) → l.row-index ≤ k → get_or l.rows k 0 ≡ get_or l.initial.rows k 0;
}
