use Rattle.std.proofs.Common.{◌≡◌, ℕ, List, ◌++◌, drop, map}
use Rattle.std.specs.Prelude.{zip}
use Rattle.ap_program.specs.Labels.{landing_among}
use Rattle.ap_program.specs.Programs.{landing_of}
use Rattle.ap_program.specs.Sources.{operand_beside}
use Rattle.ap_program.specs.declared.statement.ProgramLine.{ProgramLine}
use Rattle.ap_program.proofs.sources.operands_of.Given as goal

-- those so far and those that are left are all
abbrev pub invariant-loop-i : goal.invariant-loop-i
invariant-loop-i l =
    (lines : List ProgramLine) → ((name : List ℕ) → landing_among l.labels name ≡ landing_of name lines)
    → l.operands ++ map (operand_beside lines) (zip (drop l.i l.fields) (drop l.i l.written)) ≡ map (operand_beside lines) (zip l.fields l.written)
