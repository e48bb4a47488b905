use Rattle.std.proofs.Common.{◌≡◌, ◌+◌, ◌≤◌, ℕ, List, length, ap, sym, ◌∙◌, map, string_bytes, drop, get_or, arith, None, suc, true≢false}
use Rattle.std.specs.List.{flat_map}
use Rattle.std.specs.Vec.{vec_capacity, vec_len}
use Rattle.ap_image.specs.RowTexts.{label_of, write_text}
use Rattle.ap_eval.specs.Benches.{labelled}
use Rattle.ap_eval.specs.declared.row.WriteView.{WriteView}
use Rattle.ap_eval.specs.declared.spot.Spot.{Spot}
use Rattle.ap_eval.specs.Spots.{writes_by}
use Rattle.ap_eval.proofs.Texts.{first_write, room_next, write_of}
use Rattle.ap_eval.proofs.row.put_writes.Goals as goal

pub returns-in_err-put_write-clause-succeeds : goal.returns-in_err-put_write-clause-succeeds
returns-in_err-put_write-clause-succeeds c fits =
    let d : Spot = record { enable = 0; index = None; value = 0 } in
    let labels : List (List ℕ) = map string_bytes c.args.labels.now in
    let shown : List ℕ = c.args.shown.now in
    let text : List ℕ = write_text labels (write_of shown c.loop-group.group (get_or c.args.spots.now c.loop-group.group d)) in
    let all : List ℕ = flat_map (write_text labels) (writes_by shown 0 c.args.spots.now) in
    let first = first_write labels shown c.loop-group.group c.loop-group.group c.args.spots.now d (omega arith) c.in-Some.ensures.some.0 in
    let len : vec_len c.args.out.now ≡ length c.args.out.now.items = c.args.out.now.ok.0 in
    let more : vec_capacity c.args.out.now ≤ vec_capacity c.loop-group.out = c.loop-group.invariant.capacity in
    let room_all : length c.args.out.now.items + length all ≤ vec_capacity c.loop-group.out = omega arith in
    let room : length c.loop-group.out.items + length text ≤ vec_capacity c.loop-group.out =
    room_next c.args.out.now.items c.loop-group.out.items text (flat_map (write_text labels) (writes_by shown (c.loop-group.group + 1) (drop (suc c.loop-group.group) c.args.spots.now)))
    (flat_map (write_text labels) (writes_by shown c.loop-group.group (drop c.loop-group.group c.args.spots.now))) all (vec_capacity c.loop-group.out) c.loop-group.invariant.text first room_all in
    let same : length (labelled c.label_at.result.now c.in-Some.write.index c.in-Some.write.value) ≡ length text =
    ap (λ (l : List ℕ). length (labelled l c.in-Some.write.index c.in-Some.write.value)) c.label_at.ensures
    ∙ ap (λ (v : WriteView). length (labelled (label_of labels c.loop-group.group) v.index v.value)) c.in-Some.ensures.some.1 in
    let now : vec_len c.loop-group.out ≡ length c.loop-group.out.items = c.loop-group.out.ok.0 in
    let next : vec_len c.loop-group.out + length (labelled c.label_at.result.now c.in-Some.write.index c.in-Some.write.value) ≤ vec_capacity c.loop-group.out = omega arith in
    absurd (true≢false (sym (c.in_err-put_write.ensures.succeeds next)))
