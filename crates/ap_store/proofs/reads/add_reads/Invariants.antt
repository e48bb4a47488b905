use Rattle.std.proofs.Common.{◌≡◌, ℕ, ◌<◌, flat_map}
use Rattle.std.specs.List.{range_with_len}
use Rattle.ap_net.specs.Modules.{ports_among}
use Rattle.ap_store.specs.FilePorts.{read_ports}
use Rattle.ap_store.specs.Building.{Grows, IsRead, names_below, read_names}
use Rattle.ap_store.proofs.reads.add_reads.Given as goal

-- the read ports so far are there
abbrev pub invariant-loop-number : goal.invariant-loop-number
invariant-loop-number l = record {
  reads : (port : ℕ) → port < l.number → IsRead l.out l.file port;
  ports : ports_among l.out.nets ≡ flat_map (read_ports l.file) (range_with_len 0 l.number);
  grows : Grows (names_below read_names l.number) l.fn.out l.out;
}
