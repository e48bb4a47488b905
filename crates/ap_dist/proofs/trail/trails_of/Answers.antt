use Rattle.std.proofs.Common.{◌≡◌, ℕ, length, replicate, ap, ◌∙◌, arith}
use Rattle.std.proofs.lemmas.List.{get_or-replicate, length-replicate}
use Rattle.ap_dist.specs.Trails.{slot_at}
use Rattle.ap_dist.proofs.Built.{built_all, built_kept, built_none, built_unkept}
use Rattle.ap_dist.proofs.Read.{slot_read}
use Rattle.ap_dist.proofs.trail.trails_of.Goals as goal
use Rattle.ap_dist.proofs.trail.trails_of.Goals.{in-Some, in_default}

pub loop-place-init : goal.loop-place-init
loop-place-init c = built_none c.args.instr.now c.args.writes_only (replicate 76 0) (replicate 64 0) (length-replicate {A = ℕ} 76 0) (length-replicate {A = ℕ} 64 0) (λ slot lt. get_or-replicate 76 slot 0 0 lt)

pub loop-place-preserved : goal.loop-place-preserved
loop-place-preserved c =
    let count : length c.as_slice-micro-items.result.now ≡ length c.args.instr.now.micros = ap length c.as_slice-micro-items.ensures in
    let there : slot_at c.args.instr.now c.args.writes_only c.loop-place.place ≡ c.slot_of_line.result =
    slot_read c.args.instr.now c.args.writes_only c.as_slice-micro-items.result.now c.as_slice-micro-items.ensures c.loop-place.place c.loop-place-test.true _ c.slot_of_line.result c.slot_of_line.ensures.slot in
    elim c.match-slot_of_line.branch [
      | in-Some w ↦ (let low = w.in-Some.ensures in rw w.last-is (rw w.before-is
          (built_kept c.args.instr.now c.args.writes_only c.loop-place.place c.loop-place.last c.loop-place.before w.in-Some.slot c.loop-place.invariant (there ∙ w.in-Some.is) low.low (omega arith))))
      | in_default w ↦ rw w.last-is (rw w.before-is (built_unkept c.args.instr.now c.args.writes_only c.loop-place.place c.loop-place.last c.loop-place.before c.loop-place.invariant (there ∙ w.in_default.is)))
    ]

pub returns : goal.returns
returns c =
    let count : length c.as_slice-micro-items.result.now ≡ length c.args.instr.now.micros = ap length c.as_slice-micro-items.ensures in
    built_all c.args.instr.now c.args.writes_only c.loop-place.place c.loop-place.last c.loop-place.before c.loop-place.invariant (omega arith)
