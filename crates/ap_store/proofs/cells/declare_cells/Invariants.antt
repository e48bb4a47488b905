use Rattle.std.proofs.Common.{◌≡◌}
use Rattle.ap_store.specs.Building.{cell_wires, with_cells}
use Rattle.ap_store.proofs.cells.declare_cells.Given as goal

-- the cells so far are declared
abbrev pub invariant-loop-index : goal.invariant-loop-index
invariant-loop-index l = record {
  draft : l.out ≡ with_cells l.fn.out.name l.file l.index-counter;
  cells : l.cells.items ≡ cell_wires l.file.width l.index-counter;
}
