use Rattle.ap_image.proofs.Kept.{kept_more, kept_on}
use Rattle.ap_vw.proofs.piece.put.Goals as goal

pub returns-in_err-put_piece-clause-kept : goal.returns-in_err-put_piece-clause-kept
returns-in_err-put_piece-clause-kept c = kept_on c.args.out.now.items c.loop-piece.out.items c.put_piece.new.out.items (kept_more _ _ _ c.loop-piece.invariant) c.put_piece.ensures.kept
