use Rattle.std.proofs.Common.{arith}
use Rattle.ap_text.proofs.Laws.{IsLineWithin-item}
use Rattle.ap_program.proofs.lines.read_each.Goals as goal

pub said_by-requires : goal.said_by-requires
said_by-requires c = IsLineWithin-item _ _ c.loop-line.line-index _ (omega arith) c.line-item.is c.requires
