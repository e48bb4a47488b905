use Rattle.std.proofs.Common.{◌≡◌, map, take}
use Rattle.std.specs.List.{flat_map}
use Rattle.std.specs.String.{string_bytes}
use Rattle.ap_desc.specs.Shown.{after_space}
use Rattle.ap_desc.specs.Spelling.{width_token}
use Rattle.ap_desc.proofs.writing.widths_text.Given as goal

abbrev pub invariant-loop-field : goal.invariant-loop-field
invariant-loop-field l = string_bytes l.text ≡ flat_map after_space (map width_token (take l.field-index l.fields))
