use Rattle.std.proofs.Common.{append_assoc, rules}
use Rattle.ap_desc.proofs.writing.line_of.Goals as goal

pub returns-in_ok-format-in-File : goal.returns-in_ok-format-in-File
returns-in_ok-format-in-File c = rw (c.in-File.is, c.in_ok-format-in-File.ensures.ok, c.as_str-name-in-File.ensures.same) (search (rules, append_assoc))
