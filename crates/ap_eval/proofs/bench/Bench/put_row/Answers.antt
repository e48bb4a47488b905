use Rattle.std.proofs.Common.{◌≡◌, ◌+◌, ◌≤◌, ℕ, List, length, ap, sym, subst, ◌∙◌, map, string_bytes, arith}
use Rattle.std.proofs.lemmas.List.{length-map}
use Rattle.std.specs.Vec.{vec_capacity, vec_len}
use Rattle.ap_image.specs.RowTexts.{row_text}
use Rattle.ap_eval.specs.Benches.{BenchState, labels_by}
use Rattle.ap_eval.specs.BenchViews.{IsShowing, bench_state}
use Rattle.ap_eval.proofs.Limits.{rows_within}
use Rattle.ap_eval.proofs.bench.Bench.put_row.Goals as goal

pub returns-clause-succeeds : goal.returns-clause-succeeds
returns-clause-succeeds c fits =
    let f = c.self.inside.flat.now in
    let e1 = c.deref.ensures.value in
    let e2 = c.deref-2.ensures.value in
    let e3 = c.deref-3.ensures.value in
    let labels : List (List ℕ) = map string_bytes c.deref-3.result.now in
    let showing : IsShowing f c.deref.result.now c.deref-2.result.now labels =
    subst (λ l. IsShowing f c.deref.result.now c.deref-2.result.now (map string_bytes l)) (sym e3)
    (subst (λ l. IsShowing f c.deref.result.now l (map string_bytes c.self.inside.shown.labels.items)) (sym e2)
    (subst (λ l. IsShowing f l c.self.inside.shown.spots.items (map string_bytes c.self.inside.shown.labels.items)) (sym e1) c.self.invariant.showing)) in
    let long : length labels ≡ length c.deref-3.result.now = length-map c.deref-3.result.now string_bytes in
    let same : bench_state f c.self.inside.values.items c.self.inside.memories.items c.deref.result.now c.deref-2.result.now ≡ c.args.self.now =
    (λ i. bench_state f c.self.inside.values.items c.self.inside.memories.items (e1 i) (e2 i)) ∙ c.self.view_is in
    let within = rows_within f c.self.inside.values.items c.self.inside.memories.items c.deref.result.now c.deref-2.result.now labels showing
    (λ stall n few small. c.rows_are_short.ensures stall n (omega arith) small) c.args.self.now same c.args.cycle c.requires in
    let named : map string_bytes c.deref-4.result.now ≡ labels_by c.args.self.now.flat.outside =
    ap (map string_bytes) c.deref-4.ensures.value ∙ c.self.invariant.showing.labels_are ∙ ap (λ (b : BenchState). labels_by b.flat.outside) c.self.view_is in
    let row = c.row.ensures in
    let text : length (row_text (map string_bytes c.deref-4.result.now) c.args.cycle c.row.result) ≡ length (row_text (labels_by c.args.self.now.flat.outside) c.args.cycle c.args.self.now.row) =
    (λ i. length (row_text (named i) c.args.cycle (row i))) in
    let room : vec_len c.args.out.now + length (row_text (map string_bytes c.deref-4.result.now) c.args.cycle c.row.result) ≤ vec_capacity c.args.out.now = omega arith in
    c.put.ensures.succeeds room
