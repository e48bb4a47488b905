use Rattle.std.proofs.Common.{◌≡◌, ◌≤◌, ℕ, List, drop}
use Rattle.ap_program.specs.Programs.{landing_of}
use Rattle.ap_program.proofs.LabelTables.{landing_by}
use Rattle.ap_program.proofs.labels.labels_of.Given as goal

-- a label's landing is in the table, or is found in the lines that are left
abbrev pub invariant-loop-line : goal.invariant-loop-line
invariant-loop-line l = record {
  found : (name : List ℕ) → landing_by l.labels l.groups (drop l.line-index l.lines) name ≡ landing_of name l.lines;
  few : l.groups ≤ l.line-index;
}
