use Rattle.std.proofs.Common.{◌∙◌}
use Rattle.ap_lead.specs.Writes.{reg_write}
use Rattle.ap_lead.proofs.Numbered.{pushed}
use Rattle.ap_lead.proofs.writes.reg_writes.Goals as goal

pub loop-reg-preserved : goal.loop-reg-preserved
loop-reg-preserved c = c.in_ok-push.ensures.ok ∙ pushed (reg_write c.args.groups.now) c.loop-reg.reg c.loop-reg.writes c.reg_write.result c.loop-reg.invariant c.reg_write.ensures
