use Rattle.std.proofs.Common.{sym, subst}
use Rattle.ap_desc.specs.Reading.{ReadsAs}
use Rattle.ap_desc.specs.Shown.{renumbered}
use Rattle.ap_read.proofs.Whole.{read_as}
use Rattle.ap_read.proofs.reading.read.Goals as goal

pub returns-clause-described : goal.returns-clause-described
returns-clause-described c = read_as c.spelling_is_unique.ensures c.reading_is_unique.ensures c.args.text.now _ c.read_short.ensures.reads c.read_short.ensures.refused

pub returns-clause-shown : goal.returns-clause-shown
returns-clause-shown c = λ statements h e. read_as c.spelling_is_unique.ensures c.reading_is_unique.ensures c.args.text.now _ c.read_short.ensures.reads c.read_short.ensures.refused (renumbered 1 statements)
    (c.shown_is_read.ensures.description statements h) (subst (λ t. ReadsAs t (renumbered 1 statements)) (sym e) (c.shown_is_read.ensures.reads statements h))
