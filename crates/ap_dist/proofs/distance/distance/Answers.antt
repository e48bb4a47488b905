use Rattle.std.proofs.Common.{take, sym, ◌∙◌, arith}
use Rattle.std.specs.Prelude.{filter_map}
use Rattle.ap_dist.specs.Accesses.{access_of, accesses}
use Rattle.ap_dist.specs.Distances.{gap, greatest}
use Rattle.ap_dist.specs.declared.access.Access.{Access}
use Rattle.ap_dist.proofs.Greatest.{at_least_first}
use Rattle.ap_dist.proofs.Read.{more_kept, more_unkept}
use Rattle.ap_dist.proofs.distance.distance.Goals as goal
use Rattle.ap_dist.proofs.distance.distance.Goals.{in-Some, in_default}

pub loop-micro-preserved : goal.loop-micro-preserved
loop-micro-preserved c = elim c.match-access_of.branch [
  | in-Some w ↦ w.most-is ∙ w.reach-most.ensures
      ∙ more_kept (access_of c.args.design.now c.args.older.now c.args.word) (λ (a : Access). greatest (gap a) (accesses c.args.design.now c.args.younger.now c.args.other)) c.as_slice-micro-items.result.now c.args.older.now.micros
      c.as_slice-micro-items.ensures c.loop-micro.micro-index c.loop-micro-test.true _ w.in-Some.access (sym c.access_of.ensures.access ∙ w.in-Some.is) c.loop-micro.most c.loop-micro.invariant
  | in_default w ↦ w.most-is
      ∙ more_unkept (access_of c.args.design.now c.args.older.now c.args.word) (λ (a : Access). greatest (gap a) (accesses c.args.design.now c.args.younger.now c.args.other)) c.as_slice-micro-items.result.now c.args.older.now.micros
      c.as_slice-micro-items.ensures c.loop-micro.micro-index c.loop-micro-test.true _ (sym c.access_of.ensures.access ∙ w.in_default.is) c.loop-micro.most c.loop-micro.invariant
]

pub reach-most-requires-clause-low : goal.reach-most-requires-clause-low
reach-most-requires-clause-low c =
    let low = at_least_first (λ (a : Access). greatest (gap a) (accesses c.args.design.now c.args.younger.now c.args.other)) 1 (filter_map (access_of c.args.design.now c.args.older.now c.args.word) (take c.loop-micro.micro-index c.args.older.now.micros)) in
    let is = c.loop-micro.invariant in
    omega arith
