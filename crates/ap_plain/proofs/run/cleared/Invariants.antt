use Rattle.std.proofs.Common.{◌≡◌, map, replicate, take}
use Rattle.ap_desc.specs.declared.design.File.{File}
use Rattle.ap_plain.proofs.run.cleared.Given as goal

abbrev pub invariant-loop-file : goal.invariant-loop-file
invariant-loop-file l = l.files ≡ map (λ (f : File). replicate f.cells 0) (take l.file-index l.file-items)
