use Rattle.std.proofs.Common.{◌≡◌, ◌++◌, drop, filter_map}
use Rattle.ap_merge.specs.Choices.{source_of, sources_of}
use Rattle.ap_merge.proofs.gather.sources_of.Given as goal

-- the sources so far, and those of the uses from here on
abbrev pub invariant-loop-used : goal.invariant-loop-used
invariant-loop-used l = sources_of l.uses l.port l.operand ≡ l.entries ++ filter_map (source_of l.port l.operand) (drop l.used-index l.uses)
