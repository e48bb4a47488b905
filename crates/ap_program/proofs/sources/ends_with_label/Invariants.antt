use Rattle.std.proofs.Common.{◌≡◌, drop, false}
use Rattle.ap_program.specs.Sources.{labelled_after}
use Rattle.ap_program.proofs.sources.ends_with_label.Given as goal

abbrev pub invariant-loop-line : goal.invariant-loop-line
invariant-loop-line l = labelled_after l.labelled (drop l.line-index l.lines) ≡ labelled_after false l.lines
