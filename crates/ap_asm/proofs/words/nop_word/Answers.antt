use Rattle.std.proofs.Common.{sym, ◌∙◌}
use Rattle.ap_asm.proofs.PlainNops.{no_nop}
use Rattle.ap_asm.proofs.words.nop_word.Goals as goal

pub returns-in-None : goal.returns-in-None
returns-in-None c = no_nop c.args.design.now 0 (sym c.nop_place.ensures ∙ c.in-None.is)
