use Rattle.std.proofs.Common.{◌≡◌, ◌++◌, ◌≤◌, drop, length}
use Rattle.ap_image.specs.ImageTexts.{mems_text}
use Rattle.ap_image.specs.Kept.{IsKept}
use Rattle.ap_image.proofs.writing.put_mems.Given as goal

-- the parts that are left make the text whole
abbrev pub invariant-loop-i : goal.invariant-loop-i
invariant-loop-i l = record {
  whole : l.out.items ++ mems_text (drop l.i l.mems) (drop l.i l.shapes) ≡ l.fn.out.items ++ mems_text l.mems l.shapes;
  kept : IsKept l.fn.out.items l.out.items;
  within : l.i ≤ length l.shapes;
}
