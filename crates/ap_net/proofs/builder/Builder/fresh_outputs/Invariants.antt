use Rattle.std.proofs.Common.{◌≡◌, ℕ, ◌++◌, List, length, take}
use Rattle.ap_net.specs.Names.{IsNew, IsNotNumbered}
use Rattle.ap_net.specs.Draft.{CanFresh, names_of, wire_count}
use Rattle.ap_net.specs.Placing.{output_widths, wires_from, fresh_nets}
use Rattle.ap_net.proofs.builder.Builder.fresh_outputs.Given as goal

abbrev pub invariant-loop-port : goal.invariant-loop-port
invariant-loop-port l = record {
  same : l.self ≡ record l.fn.self { nets = l.fn.self.nets ++ fresh_nets (wire_count l.fn.self.nets) (output_widths (take l.port-index l.ports)) };
  wires : l.outputs ≡ wires_from (length l.fn.self.nets) (output_widths (take l.port-index l.ports));
  fresh : CanFresh l.self;
  names : (other : List ℕ) → IsNotNumbered other → IsNew other (names_of l.fn.self) → IsNew other (names_of l.self);
}
