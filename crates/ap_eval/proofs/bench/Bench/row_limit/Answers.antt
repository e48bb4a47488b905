use Rattle.std.proofs.Common.{◌≡◌, ℕ, List, length, ap, sym, subst, ◌∙◌, map, string_bytes, arith}
use Rattle.std.proofs.lemmas.List.{length-map}
use Rattle.ap_eval.specs.Benches.{BenchState, row_limit_of}
use Rattle.ap_eval.specs.BenchViews.{IsShowing, bench_state}
use Rattle.ap_eval.proofs.Limits.{rows_within}
use Rattle.ap_eval.proofs.bench.Bench.row_limit.Goals as goal

pub returns-clause-bounds : goal.returns-clause-bounds
returns-clause-bounds c cycle low =
    let f = c.self.inside.flat.now in
    let e1 = c.deref.ensures.value in
    let e2 = c.deref-2.ensures.value in
    let e3 = c.deref-3.ensures.value in
    let labels : List (List ℕ) = map string_bytes c.deref-3.result.now in
    let showing : IsShowing f c.deref.result.now c.deref-2.result.now labels =
    subst (λ l. IsShowing f c.deref.result.now c.deref-2.result.now (map string_bytes l)) (sym e3)
    (subst (λ l. IsShowing f c.deref.result.now l (map string_bytes c.self.inside.shown.labels.items)) (sym e2)
    (subst (λ l. IsShowing f l c.self.inside.shown.spots.items (map string_bytes c.self.inside.shown.labels.items)) (sym e1) c.self.invariant.showing)) in
    let long : length labels ≡ length c.deref-3.result.now = length-map c.deref-3.result.now string_bytes in
    let same : bench_state f c.self.inside.values.items c.self.inside.memories.items c.deref.result.now c.deref-2.result.now ≡ c.args.self.now =
    (λ i. bench_state f c.self.inside.values.items c.self.inside.memories.items (e1 i) (e2 i)) ∙ c.self.view_is in
    let within = rows_within f c.self.inside.values.items c.self.inside.memories.items c.deref.result.now c.deref-2.result.now labels showing
    (λ stall n few small. c.rows_are_short.ensures stall n (omega arith) small) c.args.self.now same cycle low in
    let limit : c.self.inside.shown.limit ≡ row_limit_of c.args.self.now.flat.outside = c.self.invariant.limited ∙ ap (λ (b : BenchState). row_limit_of b.flat.outside) c.self.view_is in
    omega arith
