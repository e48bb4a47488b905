use Rattle.ap_desc.proofs.ShownLines.{shown_reads}
use Rattle.ap_desc.proofs.writing.show.Goals as goal

pub returns-clause-reads : goal.returns-clause-reads
returns-clause-reads c = rw (c.in_ok-text.ensures, c.statements.ensures) (shown_reads c.args.d.now c.rules.ensures.spelled)
