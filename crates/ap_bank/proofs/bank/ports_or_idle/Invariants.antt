use Rattle.std.proofs.Common.{[], take}
use Rattle.ap_net.specs.Late.{Reads}
use Rattle.ap_net.specs.Making.{Makes}
use Rattle.ap_ctl.specs.Lists.{EachPair}
use Rattle.ap_bank.specs.Banked.{IsGiven}
use Rattle.ap_bank.proofs.bank.ports_or_idle.Given as goal

abbrev pub invariant-loop-port : goal.invariant-loop-port
invariant-loop-port l = record {
  given : EachPair (IsGiven l.bits l.width l.out) (take l.port-index l.ports) l.made;
  reads : Reads [] l.fn.out l.out;
  makes : Makes l.fn.out l.out;
}
