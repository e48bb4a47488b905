use Rattle.std.proofs.Common.{◌≡◌, ◌++◌, map, take}
use Rattle.std.specs.List.{flat_map}
use Rattle.std.specs.Prelude.{string_bytes}
use Rattle.ap_image.specs.RowTexts.{write_text}
use Rattle.ap_image.proofs.row_writing.put_writes.Given as goal

abbrev pub invariant-loop-write : goal.invariant-loop-write
invariant-loop-write l = l.out.items ≡ l.fn.out.items ++ flat_map (write_text (map string_bytes l.labels)) (take l.write-index l.writes)
