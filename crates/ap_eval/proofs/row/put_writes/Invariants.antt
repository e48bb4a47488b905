use Rattle.std.proofs.Common.{◌≡◌, ◌≤◌, ◌++◌, drop, map, string_bytes}
use Rattle.std.specs.Vec.{vec_capacity}
use Rattle.std.specs.List.{flat_map}
use Rattle.ap_image.specs.Kept.{IsKept}
use Rattle.ap_image.specs.RowTexts.{write_text}
use Rattle.ap_eval.specs.Spots.{writes_by}
use Rattle.ap_eval.proofs.row.put_writes.Given as goal

abbrev pub invariant-loop-group : goal.invariant-loop-group
invariant-loop-group l = record {
  text : l.out.items ++ flat_map (write_text (map string_bytes l.labels)) (writes_by l.shown l.group (drop l.group l.spots)) ≡ l.initial.out.items ++ flat_map (write_text (map string_bytes l.labels)) (writes_by l.shown 0 l.spots);
  kept : IsKept l.initial.out.items l.out.items;
  capacity : vec_capacity l.initial.out ≤ vec_capacity l.out;
}
