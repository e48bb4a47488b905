use Rattle.std.proofs.Common.{◌<◌, ◌∷◌, [], ◌++◌, length, get_or, map, take, refl, sym, ap, subst, ◌∙◌, inl, arith}
use Rattle.std.proofs.lemmas.List.{map-append, take_all, take_more}
use Rattle.ap_net.proofs.Laws.{IsNet-Reads}
use Rattle.ap_ctl.specs.declared.decode.Compared.{Compared}
use Rattle.ap_ctl.specs.Building.{GivesEachComparing}
use Rattle.ap_ctl.specs.Decoding.{FitsWord, IsCompared, compared_net, with_tests}
use Rattle.ap_ctl.proofs.Beside.{each_index, no_test}
use Rattle.ap_ctl.proofs.Tests.{tests_more}
use Rattle.ap_ctl.proofs.Built.{Builds-refl, Each-weaker, GivesEach-compared, Tells-Builds, push_each}
use Rattle.ap_ctl.proofs.decode.compare_all.Goals as goal

pub loop-test-init : goal.loop-test-init
loop-test-init c = rw c.new-made.ensures (record { tests = refl; tells = tt; gives = record { builds = Builds-refl (c.args.word.number ∷ []) c.args.out.now c.requires.fresh; results = tt } })

pub compare-requires : goal.compare-requires
compare-requires c =
    let p = c.loop-test.invariant.gives.builds in
    record {
      fresh = p.fresh;
      word = IsNet-Reads _ _ _ c.args.word p.reads c.requires.word;
      test = each_index (FitsWord c.args.word.width) c.args.tests.now c.loop-test.test-index no_test c.requires.tests (omega arith);
    }

pub loop-test-preserved : goal.loop-test-preserved
loop-test-preserved c =
    let h = c.loop-test.invariant in
    let y = c.in_ok-net.ensures in
    let inside : c.loop-test.test-index < length c.args.tests.now = omega arith in
    let x : Compared = record { test = get_or c.args.tests.now c.loop-test.test-index no_test; net = c.in_ok-net.net } in
    rw c.in_ok-push.ensures.ok (record {
      tests = map-append (λ (x : Compared). x.test) c.loop-test.made (x ∷ []) ∙ ap (λ l. l ++ x.test ∷ []) h.tests ∙ sym (take_more c.args.tests.now c.loop-test.test-index no_test inside);
      tells = push_each (IsCompared c.compare.new.out c.args.word) c.loop-test.made x (Each-weaker (IsCompared c.loop-test.out c.args.word) (IsCompared c.compare.new.out c.args.word) (λ x. Tells-Builds y.gives.builds) c.loop-test.made h.tells) y.tells;
      gives = subst (λ l. GivesEachComparing l (c.args.word.number ∷ []) c.args.out.now c.compare.new.out (map compared_net (c.loop-test.made ++ x ∷ []))) (tests_more c.args.word c.args.tests.now c.loop-test.test-index no_test inside)
          (subst (λ l. GivesEachComparing (with_tests (take c.loop-test.test-index c.args.tests.now) c.args.word ++ (c.args.word, x.test) ∷ []) (c.args.word.number ∷ []) c.args.out.now c.compare.new.out l) (sym (map-append compared_net c.loop-test.made (x ∷ []))) (GivesEach-compared (c.args.word.number ∷ []) (c.args.word.number ∷ []) c.args.out.now c.loop-test.out c.compare.new.out (map compared_net c.loop-test.made) c.in_ok-net.net h.gives y.gives (inl (inl refl), tt)));
    })

pub returns-clause-tests : goal.returns-clause-tests
returns-clause-tests c = c.loop-test.invariant.tests ∙ take_all c.loop-test.test-index c.args.tests.now (omega arith)

pub returns-clause-gives : goal.returns-clause-gives
returns-clause-gives c = subst (λ l. GivesEachComparing (with_tests l c.args.word) (c.args.word.number ∷ []) c.args.out.now c.loop-test.out (map compared_net c.loop-test.made)) (take_all c.loop-test.test-index c.args.tests.now (omega arith)) c.loop-test.invariant.gives
