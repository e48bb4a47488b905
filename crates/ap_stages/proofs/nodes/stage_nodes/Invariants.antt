use Rattle.std.proofs.Common.{◌≡◌, ℕ, length, Some}
use Rattle.std.specs.Prelude.{slice_get}
use Rattle.ap_desc.specs.declared.design.Node.{Node as DesignNode}
use Rattle.ap_stage.specs.declared.chain.Node.{Node}
use Rattle.ap_stages.specs.Supplies.{IsNodeFor}
use Rattle.ap_stages.proofs.nodes.stage_nodes.Given as goal

-- those of the nodes so far
abbrev pub invariant-loop-node : goal.invariant-loop-node
invariant-loop-node l = record {
  long : length l.nodes.items ≡ l.node-index;
  each : (k : ℕ) (x : DesignNode) (n : Node) → slice_get l.order k ≡ Some x → slice_get l.nodes.items k ≡ Some n → IsNodeFor l.design l.choices l.supplies x n;
}
