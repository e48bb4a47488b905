use Rattle.std.proofs.Common.{◌≡◌, length, ap, ◌∙◌, arith}
use Rattle.ap_desc.specs.declared.design.Instr.{Instr}
use Rattle.ap_dist.specs.Distances.{instr_out}
use Rattle.ap_dist.proofs.Bounds.{dist_within_instr, instr_out_high, out_low}
use Rattle.ap_dist.proofs.Gaps.{within_limits}
use Rattle.ap_dist.proofs.Read.{instr_read, out_all, some_here}
use Rattle.ap_dist.proofs.distance.out.Goals as goal

pub distance-requires-clause-older : goal.distance-requires-clause-older
distance-requires-clause-older c =
    within_limits c.args.design.now c.requires.clean c.args.instr c.index-instrs-instr.result
    (instr_read c.args.design.now c.as_slice-instrs.result.now c.as_slice-instrs.ensures c.args.instr c.requires.instr c.index-instrs-instr.result c.index-instrs-instr.is)

pub distance-requires-clause-younger : goal.distance-requires-clause-younger
distance-requires-clause-younger c =
    let count : length c.as_slice-instrs.result.now ≡ length c.args.design.now.instrs = ap length c.as_slice-instrs.ensures in
    within_limits c.args.design.now c.requires.clean c.loop-younger.younger-index c.younger-item.result
    (instr_read c.args.design.now c.as_slice-instrs.result.now c.as_slice-instrs.ensures c.loop-younger.younger-index (omega arith) c.younger-item.result c.younger-item.is)

pub returns-clause-value : goal.returns-clause-value
returns-clause-value c =
    let at = instr_read c.args.design.now c.as_slice-instrs.result.now c.as_slice-instrs.ensures c.args.instr c.requires.instr c.index-instrs-instr.result c.index-instrs-instr.is in
    some_here (λ (older : Instr). c.loop-younger.most ≡ instr_out c.args.design.now older) _ c.index-instrs-instr.result at
    (out_all c.args.design.now c.as_slice-instrs.result.now c.as_slice-instrs.ensures c.index-instrs-instr.result c.loop-younger.younger-index c.loop-younger.most (omega arith) c.loop-younger.invariant)

pub returns-clause-words : goal.returns-clause-words
returns-clause-words c = λ x y e.
    let at = instr_read c.args.design.now c.as_slice-instrs.result.now c.as_slice-instrs.ensures c.args.instr c.requires.instr c.index-instrs-instr.result c.index-instrs-instr.is in
    let within = dist_within_instr c.args.design.now c.index-instrs-instr.result x y (e ∙ at) in
    let is : c.loop-younger.most ≡ instr_out c.args.design.now c.index-instrs-instr.result =
    out_all c.args.design.now c.as_slice-instrs.result.now c.as_slice-instrs.ensures c.index-instrs-instr.result c.loop-younger.younger-index c.loop-younger.most (omega arith) c.loop-younger.invariant in
    omega arith

pub returns-clause-low : goal.returns-clause-low
returns-clause-low c =
    let low = out_low c.args.design.now c.index-instrs-instr.result in
    let is : c.loop-younger.most ≡ instr_out c.args.design.now c.index-instrs-instr.result =
    out_all c.args.design.now c.as_slice-instrs.result.now c.as_slice-instrs.ensures c.index-instrs-instr.result c.loop-younger.younger-index c.loop-younger.most (omega arith) c.loop-younger.invariant in
    omega arith

pub returns-clause-high : goal.returns-clause-high
returns-clause-high c =
    let at = instr_read c.args.design.now c.as_slice-instrs.result.now c.as_slice-instrs.ensures c.args.instr c.requires.instr c.index-instrs-instr.result c.index-instrs-instr.is in
    let high = instr_out_high c.args.design.now c.requires.clean c.args.instr c.index-instrs-instr.result at in
    let is : c.loop-younger.most ≡ instr_out c.args.design.now c.index-instrs-instr.result =
    out_all c.args.design.now c.as_slice-instrs.result.now c.as_slice-instrs.ensures c.index-instrs-instr.result c.loop-younger.younger-index c.loop-younger.most (omega arith) c.loop-younger.invariant in
    omega arith
