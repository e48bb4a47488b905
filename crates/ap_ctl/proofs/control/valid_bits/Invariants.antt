use Rattle.std.proofs.Common.{◌≡◌, ℕ, ◌<◌, ◌≤◌, length}
use Rattle.ap_net.specs.Draft.{CanFresh, names_of}
use Rattle.ap_net.specs.Late.{StayLate}
use Rattle.ap_net.specs.Modules.{ports_among}
use Rattle.ap_net.specs.Names.{IsNew}
use Rattle.ap_signals.specs.NetRuns.{valid_name}
use Rattle.ap_ctl.specs.Nets.{KeepsOthers, valid_wires, with_valid}
use Rattle.ap_ctl.proofs.control.valid_bits.Given as goal

abbrev pub invariant-loop-place : goal.invariant-loop-place
invariant-loop-place l = record {
  out : l.out ≡ with_valid l.fn.out l.place;
  wires : l.valid ≡ valid_wires (length l.fn.out.nets) l.place;
  names : (stage : ℕ) → l.place < stage → stage ≤ l.count → IsNew (valid_name stage) (names_of l.out);
  fresh : CanFresh l.out;
  late : StayLate l.fn.out l.out;
  ports : ports_among l.out.nets ≡ ports_among l.fn.out.nets;
  others : KeepsOthers l.place l.fn.out l.out;
}
