use Rattle.ap_image.proofs.Kept.{kept_more, kept_on}
use Rattle.ap_image.proofs.row_writing.put_writes.Goals as goal

pub returns-in_err-put_write-clause-kept : goal.returns-in_err-put_write-clause-kept
returns-in_err-put_write-clause-kept c = kept_on c.args.out.now.items c.loop-write.out.items c.put_write.new.out.items (kept_more _ _ _ c.loop-write.invariant) c.put_write.ensures.kept
