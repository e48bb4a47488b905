use Rattle.std.proofs.Common.{◌≡◌, ◌++◌, drop}
use Rattle.ap_program.specs.Sources.{numbers_of}
use Rattle.ap_program.proofs.sources.line_numbers.Given as goal

-- those so far and those of the lines that are left are all
abbrev pub invariant-loop-i : goal.invariant-loop-i
invariant-loop-i l = l.numbers ++ numbers_of (drop l.i l.lines) ≡ numbers_of l.lines
