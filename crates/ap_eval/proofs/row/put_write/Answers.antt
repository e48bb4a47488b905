use Rattle.ap_image.proofs.Kept.{kept_more, kept_on}
use Rattle.ap_eval.proofs.row.put_write.Goals as goal

pub returns-in_err-put_number-clause-kept : goal.returns-in_err-put_number-clause-kept
returns-in_err-put_number-clause-kept c =
    kept_on _ _ _ (kept_more c.args.out.now.items _ _ c.in_ok-push.ensures.items)
    (kept_on _ _ _ (kept_more _ _ _ c.in_ok-extend_from_slice.ensures.items)
    (kept_on _ _ _ c.put_index.ensures.kept (kept_on _ _ _ (kept_more _ _ _ c.in_ok-push-2.ensures.items) c.put_number.ensures.kept)))
