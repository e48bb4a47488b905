use Rattle.std.proofs.Common.{◌≡◌, ◌++◌, drop}
use Rattle.ap_rest.specs.Reads.{idle_of_files}
use Rattle.ap_rest.proofs.reads.add_idle_files.Given as goal

-- those so far, and those of the files that are left
abbrev pub invariant-loop-file : goal.invariant-loop-file
invariant-loop-file l = l.nets ++ idle_of_files l.design l.file (drop l.file l.files) ≡ l.fn.nets ++ idle_of_files l.design 0 l.files
