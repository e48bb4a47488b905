use Rattle.ap_image.proofs.Kept.{kept_more, kept_on}
use Rattle.ap_image.proofs.writing.put_trace.Goals as goal

pub returns-in_err-put_cycle-clause-kept : goal.returns-in_err-put_cycle-clause-kept
returns-in_err-put_cycle-clause-kept c = kept_on c.args.out.now.items c.loop-cycle.out.items c.put_cycle.new.out.items (kept_more _ _ _ c.loop-cycle.invariant) c.put_cycle.ensures.kept
