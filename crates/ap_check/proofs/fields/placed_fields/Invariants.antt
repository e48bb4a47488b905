use Rattle.std.proofs.Common.{◌≡◌, ◌++◌, drop}
use Rattle.ap_desc.specs.Declarations.{fields_said}
use Rattle.ap_check.specs.FixedBits.{field_bits}
use Rattle.ap_check.proofs.fields.placed_fields.Given as goal

-- the fields so far with those of the rest are all, and the rest is as wide as `low` says
abbrev pub invariant-loop-field : goal.invariant-loop-field
invariant-loop-field l = (l.placed ++ fields_said (drop l.field-index l.fields) ≡ fields_said l.fields) × (l.low ≡ field_bits (drop l.field-index l.fields))
