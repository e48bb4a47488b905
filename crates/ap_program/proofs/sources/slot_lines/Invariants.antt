use Rattle.std.proofs.Common.{◌≡◌, ℕ, List, ◌++◌, drop}
use Rattle.ap_program.specs.Labels.{landing_among}
use Rattle.ap_program.specs.Programs.{landing_of}
use Rattle.ap_program.specs.Sources.{slot_lines}
use Rattle.ap_program.specs.declared.statement.ProgramLine.{ProgramLine}
use Rattle.ap_program.proofs.sources.slot_lines.Given as goal

-- those so far and those of the lines that are left are all
abbrev pub invariant-loop-line : goal.invariant-loop-line
invariant-loop-line l =
    (all : List ProgramLine) → ((name : List ℕ) → landing_among l.labels name ≡ landing_of name all) → l.slots ++ slot_lines l.design all (drop l.line-index l.lines) ≡ slot_lines l.design all l.lines
