use Rattle.std.proofs.Common.{◌≡◌, take, min}
use Rattle.ap_check.specs.FixedBits.{field_bits}
use Rattle.ap_check.proofs.fields.total_width.Given as goal

-- the sum of the widths so far
abbrev pub invariant-loop-field : goal.invariant-loop-field
invariant-loop-field l = l.total ≡ min (field_bits (take l.field-index l.fields)) 18446744073709551615
