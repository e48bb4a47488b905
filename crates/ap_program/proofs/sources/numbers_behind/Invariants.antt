use Rattle.std.proofs.Common.{◌≡◌, ◌++◌, ◌∷◌, drop}
use Rattle.ap_program.specs.Sources.{slot_numbers}
use Rattle.ap_program.proofs.sources.numbers_behind.Given as goal

-- those so far and those of the lines that are left are all
abbrev pub invariant-loop-line : goal.invariant-loop-line
invariant-loop-line l = l.numbers ++ slot_numbers (drop l.line-index l.lines) ≡ l.first ∷ slot_numbers l.lines
