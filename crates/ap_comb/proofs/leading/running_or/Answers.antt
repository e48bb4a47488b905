use Rattle.std.proofs.Common.{◌-◌, ◌*◌, ◌≤◌, refl, sym, subst, ◌∙◌, arith, [], ◌∷◌, inl, ◌≡◌, ◌^◌}
use Rattle.ap_net.proofs.Laws.{Makes-refl, Makes-trans, Yields-same, Yields-after, carried}
use Rattle.ap_bits.specs.Operations.{zeros_above}
use Rattle.ap_comb.proofs.Runs.{IsRun, run_start, run_more, run_end}
use Rattle.ap_comb.proofs.leading.running_or.Goals as goal

pub loop-reach-init : goal.loop-reach-init
loop-reach-init c = record {
  some = omega arith;
  net = c.requires.x;
  width = refl;
  value = λ read s. (s, run_start c.args.x.width (read c.args.x.number) (s.fits _ _ c.requires.x.declared));
  makes = Makes-refl _;
  reads = Yields-same _ _ _ (inl refl);
}

pub loop-reach-preserved : goal.loop-reach-preserved
loop-reach-preserved c =
    let before = c.loop-reach.invariant in
    record {
      some = omega (arith, before.some);
      net = c.in_ok-run.ensures.net.0;
      width = c.in_ok-run.ensures.net.1 ∙ before.width;
      value = λ read s.
          let now = c.in_ok-run.ensures.value read s in
          let old = before.value read now.0 in (
            old.0,
            subst (IsRun (c.args.x.width - zeros_above c.args.x.width (read c.args.x.number)) (c.loop-reach.reach * 2)) (sym now.1)
                (run_more (c.args.x.width - zeros_above c.args.x.width (read c.args.x.number)) c.loop-reach.reach (read c.loop-reach.run.number) old.1),
          );
      makes = Makes-trans _ _ _ before.makes c.in_ok-run.ensures.makes;
      reads = Yields-after (c.args.x.number ∷ []) (c.loop-reach.run.number ∷ []) _ _ _ _ (before.reads).reads c.in_ok-run.ensures.reads ((before.reads).result, tt);
    }

pub returns-clause-value : goal.returns-clause-value
returns-clause-value c = λ read s.
    let last = c.loop-reach.invariant.value read s in
    let far : c.args.x.width - zeros_above c.args.x.width (read c.args.x.number) ≤ c.loop-reach.reach = omega arith in
    (last.0, run_end (c.args.x.width - zeros_above c.args.x.width (read c.args.x.number)) c.loop-reach.reach (read c.loop-reach.run.number) far last.1)

pub returns-clause-carries : goal.returns-clause-carries
returns-clause-carries c =
    let last = c.loop-reach.invariant in
    carried c.args.out.now _ _ (λ read y. y ≡ 2 ^ (c.args.x.width - zeros_above c.args.x.width (read c.args.x.number)) - 1) _ last.net last.width (returns-clause-value c)
