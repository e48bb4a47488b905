use Rattle.ap_desc.proofs.LocalWidths.{locals_by_lines}
use Rattle.ap_desc.proofs.laws.locals_have_the_widths_of_lines.Goals as goal

pub returns : goal.returns
returns c = locals_by_lines
