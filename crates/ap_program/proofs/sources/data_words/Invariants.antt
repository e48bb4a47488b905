use Rattle.std.proofs.Common.{◌≡◌, ◌++◌, drop}
use Rattle.ap_program.specs.Programs.{data_words}
use Rattle.ap_program.proofs.sources.data_words.Given as goal

-- those so far and those of the lines that are left are all
abbrev pub invariant-loop-line : goal.invariant-loop-line
invariant-loop-line l = l.words.items ++ data_words l.name (drop l.line-index l.lines) ≡ data_words l.name l.lines
