use Rattle.std.proofs.Common.{length}
use Rattle.ap_vr.proofs.ModuleRead.{ModuleSoFar}
use Rattle.ap_vr.proofs.reading.read_module.Given as goal

abbrev pub invariant-inner : goal.invariant-inner
invariant-inner l = ModuleSoFar l.fn.first l.fn.name l.fn.lines l.part l.top l.module l.lines

abbrev pub decreases-inner : goal.decreases-inner
decreases-inner l = length l.lines.rest.now
