use Rattle.std.proofs.Common.{◌≡◌, take, map}
use Rattle.ap_desc.specs.Instructions.{fixed_of}
use Rattle.ap_check.proofs.fields.fixed_values.Given as goal

-- the values of the fields so far
abbrev pub invariant-loop-field : goal.invariant-loop-field
invariant-loop-field l = l.values ≡ map (fixed_of l.fixed) (take l.field-index l.fields)
