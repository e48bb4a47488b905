use Rattle.ap_parts.proofs.FileLists.{file_within}
use Rattle.ap_parts.proofs.modules.one_file.Goals as goal

pub file_module-requires-clause-file : goal.file_module-requires-clause-file
file_module-requires-clause-file c = file_within c.args.design.now c.requires.clean c.args.number c.args.file.now c.requires.at
