use Rattle.std.proofs.Common.{◌≡◌, take}
use Rattle.ap_bank.specs.Placed.{file_inputs}
use Rattle.ap_bank.proofs.files.inputs.Given as goal

abbrev pub invariant-loop-write : goal.invariant-loop-write
invariant-loop-write l = l.list ≡ file_inputs l.reads (take l.write-index l.writes)
