use Rattle.std.proofs.Common.{arith}
use Rattle.ap_vr.specs.Nets.{reg_form}
use Rattle.ap_vr.proofs.NetLists.{mapped_all, mapped_more}
use Rattle.ap_vr.proofs.nets.push_regs.Goals as goal

pub loop-reg-preserved : goal.loop-reg-preserved
loop-reg-preserved c =
    mapped_more reg_form c.args.regs.now c.args.forms.now c.loop-reg.forms _ c.loop-reg.reg-index c.reg-item.result c.loop-reg.invariant (omega arith) c.reg-item.is c.in_ok-push.ensures.ok

pub returns : goal.returns
returns c = mapped_all reg_form c.args.regs.now c.args.forms.now c.loop-reg.forms c.loop-reg.reg-index c.loop-reg.invariant (omega arith)
