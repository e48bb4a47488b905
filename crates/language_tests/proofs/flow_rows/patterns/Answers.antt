use Rattle.std.proofs.Common.{refl, lit<}
use Rattle.ap_desc.specs.Examples.{adder_instr}
use Rattle.ap_desc.specs.FlowExamples.{wide_pattern}
use Rattle.language_tests.proofs.flow_rows.patterns.Goals as goal

pub returns-clause-overlap : goal.returns-clause-overlap
returns-clause-overlap c = record {
  place = 2;
  instr = wide_pattern;
  is_there = refl;
  at = refl;
  earlier = 1;
  other = adder_instr;
  is_other = refl;
  stands_before = lit< tt;
  word = 0x1000;
  is_word = lit< tt;
  matches = refl;
  matches_other = refl;
}
