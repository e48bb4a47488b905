-- The nets that all stages read are what they are named for.
use Rattle.std.proofs.Common.{List, Option, sym, subst}
use Rattle.ap_bank.specs.declared.regs.RegWrite.{RegWrite}
use Rattle.ap_bank.specs.Regs.{IsReg, TakeWrites}
use Rattle.ap_bank.proofs.BorderGiven.{IsReg-later}
use Rattle.ap_bank.proofs.Driven.{takes_later}
use Rattle.ap_ctl.proofs.Beside.{EachPair-weaker}
use Rattle.ap_ctl.specs.Lists.{EachPair}
use Rattle.ap_desc.specs.declared.design.Design.{Design}
use Rattle.ap_front.specs.declared.ports.Ports.{Ports}
use Rattle.ap_front.specs.Ports.{HasPorts, IsInput}
use Rattle.ap_front.proofs.PortNets.{ports_go_on}
use Rattle.ap_net.specs.declared.cell.Wire.{Wire}
use Rattle.ap_net.specs.Draft.{Draft, Extends}
use Rattle.ap_net.proofs.Laws.{Extends-trans}
use Rattle.ap_stages.specs.declared.begin.SharedNets.{SharedNets}
use Rattle.ap_staged.specs.Grounds.{AreSharedNamed, AreSharedOf, DrivenAreNamed, SharedAreNamed}

named_by : (design : Design) (d : Draft) (ports : Ports) (registers : List Wire) (writes : List (Option RegWrite)) (shared : SharedNets) → HasPorts design d ports → EachPair (IsReg d) design.regs registers → TakeWrites d registers writes
    → AreSharedOf registers ports shared → AreSharedNamed design d shared
named_by design d ports registers writes shared has each takes are = record {
  regs = subst (EachPair (IsReg d) design.regs) (sym are.regs_are) each;
  writes = writes;
  takes = subst (λ (ws : List Wire). TakeWrites d ws writes) (sym are.regs_are) takes;
  inputs = subst (EachPair (IsInput d) design.inputs) (sym are.inputs_are) has.inputs;
}

pub shared_named : SharedAreNamed
shared_named design a d ports registers writes shared has later banks are = named_by design d ports registers writes shared (ports_go_on design a d ports later has) banks.each banks.takes are

pub driven_named : DrivenAreNamed
driven_named design a b d ports registers writes shared has regs drives later are =
    let onward : Extends a d = Extends-trans a b d drives.extends later in
    named_by design d ports registers writes shared (ports_go_on design a d ports onward has)
    (EachPair-weaker (IsReg a) (IsReg d) (λ r w h. IsReg-later a d r w onward h) design.regs registers regs.each) (takes_later b d later registers writes drives.takes) are
