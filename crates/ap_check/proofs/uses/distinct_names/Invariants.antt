use Rattle.std.proofs.Common.{◌≡◌, true, take}
use Rattle.ap_desc.specs.Sound.{are_distinct}
use Rattle.ap_desc.specs.Spelling.{field_names}
use Rattle.ap_check.proofs.uses.distinct_names.Given as goal

-- the names are those of the fields so far, and none stands twice
abbrev pub invariant-loop-field : goal.invariant-loop-field
invariant-loop-field l = (l.names ≡ field_names (take l.field-index l.fields)) × (are_distinct l.names ≡ true)
