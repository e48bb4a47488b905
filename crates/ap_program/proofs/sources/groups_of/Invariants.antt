use Rattle.std.proofs.Common.{◌≡◌, ℕ, List, ◌++◌, drop, false}
use Rattle.ap_program.specs.Labels.{landing_among}
use Rattle.ap_program.specs.Programs.{landing_of}
use Rattle.ap_program.specs.Sources.{groups_from}
use Rattle.ap_program.specs.declared.statement.ProgramLine.{ProgramLine}
use Rattle.ap_program.proofs.sources.groups_of.Given as goal

-- those so far and those of the lines that are left are all
abbrev pub invariant-loop-i : goal.invariant-loop-i
invariant-loop-i l =
    (all : List ProgramLine) → ((name : List ℕ) → landing_among l.labels name ≡ landing_of name all) → l.groups ++ groups_from l.design all l.labelled (drop l.i l.lines) ≡ groups_from l.design all false l.lines
