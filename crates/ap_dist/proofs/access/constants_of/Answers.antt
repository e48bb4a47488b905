use Rattle.std.proofs.Common.{◌≡◌, ℕ, ◌+◌, List, Option, None, length, replicate, set, refl, sym, ap, subst, ◌∙◌, arith}
use Rattle.std.proofs.lemmas.List.{get_or-replicate, length-replicate}
use Rattle.ap_desc.specs.declared.design.Micro.{Micro}
use Rattle.ap_dist.proofs.Gathered.{IsGathered, gathered_all, gathered_more, gathered_none, gathered_skip}
use Rattle.ap_dist.proofs.access.constants_of.Goals as goal
use Rattle.ap_dist.proofs.access.constants_of.Goals.{then-makes_local, else-makes_local}

pub loop-micro-init : goal.loop-micro-init
loop-micro-init c = gathered_none c.args.instr.now.micros (replicate 64 None) (length-replicate {A = Option ℕ} 64 None) (λ local lt. get_or-replicate 64 local None None lt)

pub loop-micro-preserved : goal.loop-micro-preserved
loop-micro-preserved c =
    let count : length c.as_slice-micro-items.result.now ≡ length c.args.instr.now.micros = ap length c.as_slice-micro-items.ensures in
    let before : List Micro → Type 0 = λ lines. IsGathered lines c.loop-micro.micro-index c.loop-micro.count c.loop-micro.values in
    let gathered = subst before (sym c.as_slice-micro-items.ensures) c.loop-micro.invariant in
    elim c.if-makes_local.branch [
      | then-makes_local w ↦ (let after : List Micro → Type 0 = λ lines. IsGathered lines (c.loop-micro.micro-index + 1) (c.loop-micro.count + 1) (set c.loop-micro.values c.loop-micro.count w.constant_of.result) in
          rw w.values-is (rw w.count-is (subst after c.as_slice-micro-items.ensures
          (gathered_more c.as_slice-micro-items.result.now c.loop-micro.micro-index c.loop-micro.count c.loop-micro.values _ w.constant_of.result gathered c.loop-micro-test.true (omega arith)
          (sym c.makes_local.ensures ∙ w.if-makes_local.true) w.constant_of.ensures))))
      | else-makes_local w ↦ (let after : List Micro → Type 0 = λ lines. IsGathered lines (c.loop-micro.micro-index + 1) c.loop-micro.count c.loop-micro.values in
          rw w.values-is (rw w.count-is (subst after c.as_slice-micro-items.ensures
          (gathered_skip c.as_slice-micro-items.result.now c.loop-micro.micro-index c.loop-micro.count c.loop-micro.values _ gathered c.loop-micro-test.true (sym c.makes_local.ensures ∙ w.if-makes_local.false)))))
    ]

pub returns : goal.returns
returns c =
    let count : length c.as_slice-micro-items.result.now ≡ length c.args.instr.now.micros = ap length c.as_slice-micro-items.ensures in
    gathered_all c.args.instr.now c.args.instr.now.micros c.loop-micro.micro-index c.loop-micro.count c.loop-micro.values refl c.loop-micro.invariant (omega arith) c.requires
