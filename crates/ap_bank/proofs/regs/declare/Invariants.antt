use Rattle.std.proofs.Common.{◌≡◌, length, map, take, drop}
use Rattle.ap_net.specs.Draft.{CanFresh}
use Rattle.ap_net.specs.Late.{StayLate}
use Rattle.ap_net.specs.Names.{AreDistinct}
use Rattle.ap_bank.specs.Regs.{AreNewRegs, KeepsOtherRegs, reg_wires, with_regs}
use Rattle.ap_bank.proofs.Declared.{name_of}
use Rattle.ap_bank.proofs.regs.declare.Given as goal

abbrev pub invariant-loop-reg : goal.invariant-loop-reg
invariant-loop-reg l = record {
  out : l.out ≡ with_regs l.fn.out (take l.reg-index l.regs);
  wires : l.made ≡ reg_wires (length l.fn.out.nets) (take l.reg-index l.regs);
  new : AreNewRegs (drop l.reg-index l.regs) l.out;
  apart : AreDistinct (map name_of (drop l.reg-index l.regs));
  fresh : CanFresh l.out;
  late : StayLate l.fn.out l.out;
  others : KeepsOtherRegs (take l.reg-index l.regs) l.fn.out l.out;
}
