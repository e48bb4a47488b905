use Rattle.ap_parts.proofs.FileLists.{add_more}
use Rattle.ap_parts.proofs.modules.add_file_modules.Goals as goal

pub loop-number-preserved : goal.loop-number-preserved
loop-number-preserved c = rw c.in_ok-push.ensures.items (add_more c.args.design.now c.loop-number.number c.args.modules.now.items c.loop-number.modules.items c.in_ok-whole.whole c.loop-number.invariant c.in_ok-whole.ensures)
