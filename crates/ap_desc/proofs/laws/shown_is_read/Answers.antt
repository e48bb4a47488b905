use Rattle.ap_desc.proofs.Renumbered.{renumbered_description}
use Rattle.ap_desc.proofs.ShownLines.{shown_reads}
use Rattle.ap_desc.proofs.laws.shown_is_read.Goals as goal

pub returns-clause-reads : goal.returns-clause-reads
returns-clause-reads c = λ statements h. shown_reads statements h.spelled

pub returns-clause-description : goal.returns-clause-description
returns-clause-description c = renumbered_description
