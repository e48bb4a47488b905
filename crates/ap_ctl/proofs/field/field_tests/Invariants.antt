use Rattle.std.proofs.Common.{◌≡◌, [], flat_map, fold, take}
use Rattle.ap_ctl.specs.Decoding.{tests_of, with_test}
use Rattle.ap_ctl.proofs.field.field_tests.Given as goal

abbrev pub invariant-loop-instr : goal.invariant-loop-instr
invariant-loop-instr l = l.tests ≡ fold with_test [] (flat_map (tests_of l.design) (take l.instr-index l.design.instrs))
