use Rattle.ap_work.proofs.Waiting.{work_leaves_late}
use Rattle.ap_work.proofs.laws.work_leaves_late.Goals as goal

pub returns : goal.returns
returns c = work_leaves_late
