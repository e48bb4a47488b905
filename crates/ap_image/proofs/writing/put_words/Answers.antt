use Rattle.ap_image.proofs.Kept.{kept_more, kept_on}
use Rattle.ap_image.proofs.writing.put_words.Goals as goal

pub returns-in_err-put_word-clause-kept : goal.returns-in_err-put_word-clause-kept
returns-in_err-put_word-clause-kept c = kept_on c.args.out.now.items c.loop-word.out.items c.put_word.new.out.items (kept_more _ _ _ c.loop-word.invariant) c.put_word.ensures.kept
