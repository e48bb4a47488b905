use Rattle.std.proofs.Common.{◌≡◌, ℕ, ◌≤◌, List, Some, length}
use Rattle.std.specs.Prelude.{slice_get}
use Rattle.ap_desc.specs.declared.design.Node.{Node as DesignNode}
use Rattle.ap_stages.specs.Stages.{AreStaged}
use Rattle.ap_stages.specs.Stood.{AreStanding}
use Rattle.ap_stages.proofs.stages.make_stages.Given as goal

-- those so far; what stands for the nodes of the others stands still
abbrev pub invariant-loop-place : goal.invariant-loop-place
invariant-loop-place l = record {
  long : length l.made.items ≡ l.place;
  rest : (k : ℕ) (order : List DesignNode) → l.place ≤ k → slice_get l.paths.orders k ≡ Some order → AreStanding l.design l.out l.modules l.supplies order;
  staged : AreStaged l.design l.table.stages l.choices l.supplies l.paths.orders l.modules l.shared l.own l.fn.out l.out l.made.items;
}
