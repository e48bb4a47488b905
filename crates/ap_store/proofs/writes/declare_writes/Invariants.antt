use Rattle.std.proofs.Common.{◌≡◌, ◌++◌, length, flat_map}
use Rattle.std.specs.List.{range_with_len}
use Rattle.ap_net.specs.Modules.{ports_among}
use Rattle.ap_store.specs.FilePorts.{write_ports}
use Rattle.ap_store.specs.Building.{AreWrites, Grows, names_below, write_names}
use Rattle.ap_store.proofs.writes.declare_writes.Given as goal

-- the write ports so far are there
abbrev pub invariant-loop-number : goal.invariant-loop-number
invariant-loop-number l = record {
  count : length l.ports.items ≡ l.number;
  ports : AreWrites l.out l.file l.ports.items;
  shown : ports_among l.out.nets ≡ ports_among l.fn.out.nets ++ flat_map (write_ports l.file) (range_with_len 0 l.number);
  grows : Grows (names_below write_names l.number) l.fn.out l.out;
}
