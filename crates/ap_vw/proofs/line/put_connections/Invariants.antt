use Rattle.std.proofs.Common.{◌≡◌, ◌++◌, drop}
use Rattle.ap_image.specs.Kept.{IsKept}
use Rattle.ap_net.specs.Modules.{nets_of}
use Rattle.ap_net.specs.Text.{connections_text}
use Rattle.ap_vw.proofs.line.put_connections.Given as goal

abbrev pub invariant-loop-i : goal.invariant-loop-i
invariant-loop-i l = record {
  text : l.out.items ++ connections_text (nets_of l.whole) (drop l.i l.ports) (drop l.i l.nets) ≡ l.fn.out.items ++ connections_text (nets_of l.whole) l.ports l.nets;
  kept : IsKept l.fn.out.items l.out.items;
}
