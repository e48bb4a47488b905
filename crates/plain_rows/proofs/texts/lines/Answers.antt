use Rattle.std.proofs.Common.{[], map, string_bytes}
use Rattle.ap_plain.proofs.PortLists.{files_more}
use Rattle.plain_rows.specs.Lines.{line_at}
use Rattle.plain_rows.proofs.texts.lines.Goals as goal

pub loop-cycle-preserved : goal.loop-cycle-preserved
loop-cycle-preserved c =
    files_more (line_at (map string_bytes c.args.labels.now) c.args.rows.now) [] c.loop-cycle.text.items c.add_line.new.text.items c.loop-cycle.cycle c.loop-cycle.invariant
    c.in_ok-add_line.ensures
