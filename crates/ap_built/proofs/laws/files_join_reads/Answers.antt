use Rattle.ap_built.proofs.FileReads.{files_join_reads}
use Rattle.ap_built.proofs.laws.files_join_reads.Goals as goal

pub returns : goal.returns
returns c = files_join_reads
