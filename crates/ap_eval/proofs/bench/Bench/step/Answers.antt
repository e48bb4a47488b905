use Rattle.std.proofs.Common.{◌≡◌, ℕ, List, ◌++◌, ◌∙◌, length, take, drop, ap, sym, subst, arith}
use Rattle.ap_image.specs.declared.trace.TraceLine.{TraceLine}
use Rattle.ap_image.specs.FitsShape.{LineFitsShape}
use Rattle.ap_net.specs.Outside.{shape_of}
use Rattle.ap_eval.specs.Benches.{BenchState, Steps}
use Rattle.ap_eval.specs.Cells.{Cells}
use Rattle.ap_eval.specs.BenchViews.{CanCycle, IsCycled, IsReady, bench_state}
use Rattle.ap_eval.proofs.Able.{cycled_ready, cycled_steps, put_back}
use Rattle.ap_eval.proofs.bench.Bench.step.Goals as goal

moved : (line : TraceLine) (a b new : BenchState) → a ≡ b → Steps line a new → Steps line b new
moved line a b new e s = subst (λ x. Steps line x new) e s

pub returns : goal.returns
returns c =
    let f = c.self.inside.flat.now in
    let roots : List ℕ = c.self.inside.plan.roots.items in
    let values : List ℕ = c.self.inside.values.items in
    let mems : List Cells = c.self.inside.memories.items in
    let shown : List ℕ = c.self.inside.shown.values.items in
    let nv : List ℕ = c.cycle.new.values in
    let nm : List Cells = c.cycle.new.memories in
    let ns : List ℕ = c.cycle.new.shown in
    let e1 = c.deref_mut.ensures.value in
    let e2 = c.deref_mut-2.ensures.value in
    let flat_is = ap (λ (b : BenchState). b.flat) c.self.view_is in
    let can : CanCycle f roots c.self.inside.plan.ops.items c.args.input.now values mems (length c.self.inside.taken.items) (length shown) = record {
      plan = c.self.invariant.plan;
      ready = c.self.invariant.ready;
      line_fits = subst (λ g. LineFitsShape c.args.input.now (shape_of g.outside)) (sym flat_is) c.requires;
      taken_is = c.self.invariant.room;
      shown_is = c.self.invariant.showing.long;
    } in
    let cyc : IsCycled f roots c.args.input.now values mems nv nm c.cycle.new.taken ns =
    subst (λ (m : List Cells). IsCycled f roots c.args.input.now values m nv nm c.cycle.new.taken ns) e2
    (subst (λ (l : List ℕ). IsCycled f roots c.args.input.now l c.deref_mut-2.result.now nv nm c.cycle.new.taken ns) e1 c.cycle.ensures) in
    let pv = put_back c.self.inside.values.len nv values (let w : length values ≡ c.self.inside.values.len = omega (arith, c.self.inside.values.ok.0) in w) (c.cycle.auto.values ∙ ap length e1) in
    let pm = put_back c.self.inside.memories.len nm mems (let w : length mems ≡ c.self.inside.memories.len = omega (arith, c.self.inside.memories.ok.0) in w) (c.cycle.auto.memories ∙ ap length e2) in
    let ps = put_back c.self.inside.shown.values.len ns shown (let w : length shown ≡ c.self.inside.shown.values.len = omega (arith, c.self.inside.shown.values.ok.0) in w) (c.cycle.auto.shown ∙ ap length c.deref_mut-4.ensures.value) in
    let spots = c.self.inside.shown.spots.items in
    moved _ _ _ _ c.self.view_is
    (subst (Steps c.args.input.now (bench_state f values mems shown spots)) (sym (λ i. bench_state f (pv i) (pm i) (ps i) spots))
    (cycled_steps f c.rules.ensures roots c.self.inside.plan.ops.items c.args.input.now values mems (length c.self.inside.taken.items) (length shown) can nv nm c.cycle.new.taken ns cyc shown spots c.self.invariant.showing.spots_are))

pub invariant_of-self : goal.invariant_of-self
invariant_of-self c =
    let f = c.self.inside.flat.now in
    let roots : List ℕ = c.self.inside.plan.roots.items in
    let values : List ℕ = c.self.inside.values.items in
    let mems : List Cells = c.self.inside.memories.items in
    let shown : List ℕ = c.self.inside.shown.values.items in
    let nv : List ℕ = c.cycle.new.values in
    let nm : List Cells = c.cycle.new.memories in
    let ns : List ℕ = c.cycle.new.shown in
    let e1 = c.deref_mut.ensures.value in
    let e2 = c.deref_mut-2.ensures.value in
    let flat_is = ap (λ (b : BenchState). b.flat) c.self.view_is in
    let can : CanCycle f roots c.self.inside.plan.ops.items c.args.input.now values mems (length c.self.inside.taken.items) (length shown) = record {
      plan = c.self.invariant.plan;
      ready = c.self.invariant.ready;
      line_fits = subst (λ g. LineFitsShape c.args.input.now (shape_of g.outside)) (sym flat_is) c.requires;
      taken_is = c.self.invariant.room;
      shown_is = c.self.invariant.showing.long;
    } in
    let cyc : IsCycled f roots c.args.input.now values mems nv nm c.cycle.new.taken ns =
    subst (λ (m : List Cells). IsCycled f roots c.args.input.now values m nv nm c.cycle.new.taken ns) e2
    (subst (λ (l : List ℕ). IsCycled f roots c.args.input.now l c.deref_mut-2.result.now nv nm c.cycle.new.taken ns) e1 c.cycle.ensures) in
    let pv = put_back c.self.inside.values.len nv values (let w : length values ≡ c.self.inside.values.len = omega (arith, c.self.inside.values.ok.0) in w) (c.cycle.auto.values ∙ ap length e1) in
    let pm = put_back c.self.inside.memories.len nm mems (let w : length mems ≡ c.self.inside.memories.len = omega (arith, c.self.inside.memories.ok.0) in w) (c.cycle.auto.memories ∙ ap length e2) in
    let ps = put_back c.self.inside.shown.values.len ns shown (let w : length shown ≡ c.self.inside.shown.values.len = omega (arith, c.self.inside.shown.values.ok.0) in w) (c.cycle.auto.shown ∙ ap length c.deref_mut-4.ensures.value) in
    let back : List ℕ = take c.self.inside.values.len (nv ++ drop (length nv) values) in
    let taken : List ℕ = c.self.inside.taken.items in
    let pt = put_back c.self.inside.taken.len c.cycle.new.taken taken (let w : length taken ≡ c.self.inside.taken.len = omega (arith, c.self.inside.taken.ok.0) in w) (c.cycle.auto.taken ∙ ap length c.deref_mut-3.ensures.value) in
    let ready = cycled_ready f c.rules.ensures roots c.self.inside.plan.ops.items c.args.input.now values mems (length taken) (length shown) can nv nm c.cycle.new.taken ns cyc in
    record {
      plan = c.self.invariant.plan;
      ready = subst (IsReady f back) (sym pm) (subst (λ (l : List ℕ). IsReady f l nm) (sym pv) ready);
      room = ap length pt ∙ cyc.taken_long;
      showing = record { long = ap length ps ∙ cyc.shown_long; spots_are = c.self.invariant.showing.spots_are; labels_are = c.self.invariant.showing.labels_are };
      limited = c.self.invariant.limited;
      ordered = c.self.invariant.ordered;
    }
