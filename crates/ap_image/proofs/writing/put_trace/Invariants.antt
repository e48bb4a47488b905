use Rattle.std.proofs.Common.{◌≡◌, ◌++◌, take}
use Rattle.std.specs.List.{flat_map}
use Rattle.ap_image.specs.TraceTexts.{cycle_text}
use Rattle.ap_image.proofs.writing.put_trace.Given as goal

abbrev pub invariant-loop-cycle : goal.invariant-loop-cycle
invariant-loop-cycle l = l.out.items ≡ l.fn.out.items ++ flat_map cycle_text (take l.cycle-index l.cycles)
