use Rattle.std.proofs.Common.{◌≡◌, ◌<◌, ◌≤◌, sym, ◌∙◌, arith}
use Rattle.ap_dist.specs.Distances.{dist_of}
use Rattle.ap_dist.proofs.Bounds.{dist_from_none, dist_high, dist_low, dist_of_matched, dist_to_none}
use Rattle.ap_dist.proofs.Gaps.{within_limits}
use Rattle.ap_dist.proofs.Matched.{matched_instr, no_accesses, unmatched_word}
use Rattle.ap_dist.proofs.Read.{match_read}
use Rattle.ap_dist.proofs.distance.dist.Goals as goal

pub distance-requires-clause-older : goal.distance-requires-clause-older
distance-requires-clause-older c =
    let m = c.in-Some-Some.ensures in
    within_limits c.args.design.now c.requires c.in-Some-Some.older c.index-instrs-older.result
    (match_read c.args.design.now c.as_slice-instrs.result.now c.as_slice-instrs.ensures c.args.x c.in-Some-Some.older m.some c.index-instrs-older.result c.index-instrs-older.is)

pub distance-requires-clause-younger : goal.distance-requires-clause-younger
distance-requires-clause-younger c =
    let m = c.in-Some-Some.ensures' in
    within_limits c.args.design.now c.requires c.in-Some-Some.younger c.index-instrs-younger.result
    (match_read c.args.design.now c.as_slice-instrs.result.now c.as_slice-instrs.ensures c.args.y c.in-Some-Some.younger m.some c.index-instrs-younger.result c.index-instrs-younger.is)

pub returns-in-Some-Some-clause-value : goal.returns-in-Some-Some-clause-value
returns-in-Some-Some-clause-value c =
    let m = c.in-Some-Some.ensures in
    let n = c.in-Some-Some.ensures' in
    let one = match_read c.args.design.now c.as_slice-instrs.result.now c.as_slice-instrs.ensures c.args.x c.in-Some-Some.older m.some c.index-instrs-older.result c.index-instrs-older.is in
    let two = match_read c.args.design.now c.as_slice-instrs.result.now c.as_slice-instrs.ensures c.args.y c.in-Some-Some.younger n.some c.index-instrs-younger.result c.index-instrs-younger.is in
    c.distance.ensures ∙ sym (dist_of_matched c.args.design.now c.args.x c.args.y c.index-instrs-older.result c.index-instrs-younger.result
    (matched_instr c.args.design.now c.args.x c.in-Some-Some.older c.index-instrs-older.result one m.some) (matched_instr c.args.design.now c.args.y c.in-Some-Some.younger c.index-instrs-younger.result two n.some))

pub returns-in-Some-Some-clause-low : goal.returns-in-Some-Some-clause-low
returns-in-Some-Some-clause-low c =
    let m = c.in-Some-Some.ensures in
    let n = c.in-Some-Some.ensures' in
    let one = match_read c.args.design.now c.as_slice-instrs.result.now c.as_slice-instrs.ensures c.args.x c.in-Some-Some.older m.some c.index-instrs-older.result c.index-instrs-older.is in
    let two = match_read c.args.design.now c.as_slice-instrs.result.now c.as_slice-instrs.ensures c.args.y c.in-Some-Some.younger n.some c.index-instrs-younger.result c.index-instrs-younger.is in
    let value : c.distance.result ≡ dist_of c.args.design.now c.args.x c.args.y =
    c.distance.ensures ∙ sym (dist_of_matched c.args.design.now c.args.x c.args.y c.index-instrs-older.result c.index-instrs-younger.result
    (matched_instr c.args.design.now c.args.x c.in-Some-Some.older c.index-instrs-older.result one m.some) (matched_instr c.args.design.now c.args.y c.in-Some-Some.younger c.index-instrs-younger.result two n.some)) in
    let low : 1 ≤ dist_of c.args.design.now c.args.x c.args.y = dist_low c.args.design.now c.args.x c.args.y in
    omega arith

pub returns-in-Some-Some-clause-high : goal.returns-in-Some-Some-clause-high
returns-in-Some-Some-clause-high c =
    let m = c.in-Some-Some.ensures in
    let n = c.in-Some-Some.ensures' in
    let one = match_read c.args.design.now c.as_slice-instrs.result.now c.as_slice-instrs.ensures c.args.x c.in-Some-Some.older m.some c.index-instrs-older.result c.index-instrs-older.is in
    let two = match_read c.args.design.now c.as_slice-instrs.result.now c.as_slice-instrs.ensures c.args.y c.in-Some-Some.younger n.some c.index-instrs-younger.result c.index-instrs-younger.is in
    let value : c.distance.result ≡ dist_of c.args.design.now c.args.x c.args.y =
    c.distance.ensures ∙ sym (dist_of_matched c.args.design.now c.args.x c.args.y c.index-instrs-older.result c.index-instrs-younger.result
    (matched_instr c.args.design.now c.args.x c.in-Some-Some.older c.index-instrs-older.result one m.some) (matched_instr c.args.design.now c.args.y c.in-Some-Some.younger c.index-instrs-younger.result two n.some)) in
    let high : dist_of c.args.design.now c.args.x c.args.y < c.args.design.now.stages = dist_high c.args.design.now c.requires c.args.x c.args.y in
    omega arith

pub returns-in_default-clause-value : goal.returns-in_default-clause-value
returns-in_default-clause-value c =
    let m = c.in_default.ensures' in
    sym (dist_to_none c.args.design.now c.args.x c.args.y (no_accesses c.args.design.now c.args.y (unmatched_word c.args.design.now c.args.y m.none)))

pub returns-in_default-2-clause-value : goal.returns-in_default-2-clause-value
returns-in_default-2-clause-value c =
    let none = rw c.in_default.is-0 at c.find.ensures.none in
    sym (dist_from_none c.args.design.now c.args.x c.args.y (no_accesses c.args.design.now c.args.x (unmatched_word c.args.design.now c.args.x none)))
