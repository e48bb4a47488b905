use Rattle.std.proofs.Common.{◌≡◌, take, min, sum_by}
use Rattle.ap_check.specs.FixedBits.{mask_of}
use Rattle.ap_check.proofs.fields.fixed_mask.Given as goal

-- the bits of the fields so far
abbrev pub invariant-loop-field : goal.invariant-loop-field
invariant-loop-field l = l.bits ≡ min (sum_by (mask_of l.word l.fixed) (take l.field-index l.fields)) 18446744073709551615
