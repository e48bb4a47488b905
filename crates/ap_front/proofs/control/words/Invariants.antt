use Rattle.std.proofs.Common.{◌≡◌, take}
use Rattle.ap_front.specs.Controlling.{words_of}
use Rattle.ap_front.proofs.control.words.Given as goal

abbrev pub invariant-loop-stage : goal.invariant-loop-stage
invariant-loop-stage l = l.list ≡ words_of (take l.stage-index l.stages)
