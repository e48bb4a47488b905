use Rattle.std.proofs.Common.{◌∙◌}
use Rattle.ap_lead.specs.Writes.{file_write}
use Rattle.ap_lead.proofs.Numbered.{pushed}
use Rattle.ap_lead.proofs.writes.file_writes.Goals as goal

pub loop-port-preserved : goal.loop-port-preserved
loop-port-preserved c = c.in_ok-push.ensures.ok ∙ pushed (file_write c.args.groups.now c.args.file) c.loop-port.port c.loop-port.writes c.file_write.result c.loop-port.invariant c.file_write.ensures
