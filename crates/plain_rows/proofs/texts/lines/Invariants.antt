use Rattle.std.proofs.Common.{◌≡◌, map, string_bytes, flat_map}
use Rattle.std.specs.List.{range_with_len}
use Rattle.plain_rows.specs.Lines.{line_at}
use Rattle.plain_rows.proofs.texts.lines.Given as goal

abbrev pub invariant-loop-cycle : goal.invariant-loop-cycle
invariant-loop-cycle l = l.text.items ≡ flat_map (line_at (map string_bytes l.labels) l.rows) (range_with_len 0 l.cycle)
