use Rattle.std.proofs.Common.{◌≡◌, ◌∷◌, [], map, take}
use Rattle.std.specs.List.{AllByRecursion as Each}
use Rattle.ap_ctl.specs.declared.decode.Compared.{Compared}
use Rattle.ap_ctl.specs.Building.{GivesEachComparing}
use Rattle.ap_ctl.specs.Decoding.{IsCompared, compared_net, with_tests}
use Rattle.ap_ctl.proofs.decode.compare_all.Given as goal

abbrev pub invariant-loop-test : goal.invariant-loop-test
invariant-loop-test l = record {
  tests : map (λ (c : Compared). c.test) l.made ≡ take l.test-index l.tests;
  tells : Each (IsCompared l.out l.word) l.made;
  gives : GivesEachComparing (with_tests (take l.test-index l.tests) l.word) (l.word.number ∷ []) l.fn.out l.out (map compared_net l.made);
}
