use Rattle.std.proofs.Common.{subst}
use Rattle.ap_desc.specs.Clean.{FitsCards}
use Rattle.plain_rows.proofs.texts.rows_text.Goals as goal

pub rows-requires-clause-design : goal.rows-requires-clause-design
rows-requires-clause-design g c = c.fitting_designs_can_be_run.ensures c.in_ok-design.design c.args.cards.now (subst (FitsCards c.in_ok-design.design) c.requires c.in_ok-design.ensures.fits)
