use Rattle.std.proofs.Common.{◌+◌, ◌-◌, ◌≤◌, List, [], ◌∷◌, Some, length, refl, sym, ap, subst, ◌∙◌, arith, length-append}
use Rattle.std.specs.Prelude.{◌≢◌}
use Rattle.ap_ports.proofs.Members.{each_get}
use Rattle.ap_stages.specs.Stages.{AreStaged, IsLowStage}
use Rattle.ap_stages.specs.Stood.{AreStanding}
use Rattle.ap_stages.specs.declared.stage.ServedStage.{ServedStage}
use Rattle.ap_stages.proofs.Leaving.{stand_on}
use Rattle.ap_stages.proofs.Onward.{shared_on}
use Rattle.ap_stages.proofs.Together.{at_place, few_places, low_on, own_on, staged_more, staged_none}
use Rattle.ap_stages.proofs.stages.make_stages.Goals as goal

pub loop-place-init : goal.loop-place-init
loop-place-init c = record {
  long = ap length c.new-made.ensures.items;
  rest = λ k order le at. each_get (AreStanding c.args.design.now c.args.out.now c.args.modules.now c.args.supplies.now) c.args.paths.now.orders k order c.requires.stand at;
  staged = subst (λ (l : List ServedStage). AreStaged c.args.design.now c.args.table.now.stages c.args.choices.now c.args.supplies.now c.args.paths.now.orders c.args.modules.now c.args.shared.now c.args.own.now c.args.out.now c.args.out.now l) (sym c.new-made.ensures.items)
      (staged_none c.args.design.now c.args.table.now.stages c.args.choices.now c.args.supplies.now c.args.paths.now.orders c.args.modules.now c.args.shared.now c.args.own.now c.args.out.now);
}

pub overflow_cast-place : goal.overflow_cast-place
overflow_cast-place c = let h = few_places c.args.design.now c.loop-place.place (length c.args.own.now) c.requires.clean c.requires.many c.loop-place-test.true in omega (arith, h)

pub overflow_add-place : goal.overflow_add-place
overflow_add-place c = let h = few_places c.args.design.now c.loop-place.place (length c.args.own.now) c.requires.clean c.requires.many c.loop-place-test.true in omega (arith, h)

pub make_stage-requires-clause-homes : goal.make_stage-requires-clause-homes
make_stage-requires-clause-homes c =
    let place = c.loop-place.place in
    let low = c.loop-place-test.true in
    let table_at = at_place c.as_slice-tables.result.now c.args.table.now.stages place (length c.args.own.now) (c.args.design.now.stages - 1) c.index-tables-place.result c.as_slice-tables.ensures c.requires.slots.count c.requires.many low c.index-tables-place.is in
    (c.requires.slots.each place c.index-tables-place.result table_at).homes

pub make_stage-requires-clause-order : goal.make_stage-requires-clause-order
make_stage-requires-clause-order c =
    let place = c.loop-place.place in
    let low = c.loop-place-test.true in
    let order_at =
    at_place c.as_slice-orders.result.now c.args.paths.now.orders place (length c.args.own.now) (c.args.design.now.stages - 1) c.index-orders-place.result c.as_slice-orders.ensures c.requires.paths.orders.count c.requires.many low c.index-orders-place.is
    ∙ ap Some (sym c.as_slice.ensures) in
    c.requires.paths.orders.each place c.as_slice.result.now order_at

pub make_stage-requires-clause-stand : goal.make_stage-requires-clause-stand
make_stage-requires-clause-stand c =
    let place = c.loop-place.place in
    let low = c.loop-place-test.true in
    let order_at =
    at_place c.as_slice-orders.result.now c.args.paths.now.orders place (length c.args.own.now) (c.args.design.now.stages - 1) c.index-orders-place.result c.as_slice-orders.ensures c.requires.paths.orders.count c.requires.many low c.index-orders-place.is
    ∙ ap Some (sym c.as_slice.ensures) in
    let here : place ≤ place = omega arith in
    c.loop-place.invariant.rest place c.as_slice.result.now here order_at

pub make_stage-requires-clause-shared : goal.make_stage-requires-clause-shared
make_stage-requires-clause-shared c = shared_on c.args.design.now c.args.shared.now c.args.out.now c.loop-place.out c.loop-place.invariant.staged.serves.serves.adds c.requires.shared

pub make_stage-requires-clause-own : goal.make_stage-requires-clause-own
make_stage-requires-clause-own c =
    let place = c.loop-place.place in
    let low = c.loop-place-test.true in
    let own_at = at_place c.args.own.now c.args.own.now place (length c.args.own.now) (c.args.design.now.stages - 1) c.index-own-place.result refl c.requires.many c.requires.many low c.index-own-place.is in
    let table_at = at_place c.as_slice-tables.result.now c.args.table.now.stages place (length c.args.own.now) (c.args.design.now.stages - 1) c.index-tables-place.result c.as_slice-tables.ensures c.requires.slots.count c.requires.many low c.index-tables-place.is in
    own_on c.args.design.now c.args.out.now c.loop-place.out c.index-tables-place.result c.index-own-place.result c.loop-place.invariant.staged.serves.serves.adds (c.requires.own place c.index-tables-place.result c.index-own-place.result table_at own_at)

pub make_stage-requires-clause-low : goal.make_stage-requires-clause-low
make_stage-requires-clause-low c =
    let place = c.loop-place.place in
    let low = c.loop-place-test.true in
    let own_at = at_place c.args.own.now c.args.own.now place (length c.args.own.now) (c.args.design.now.stages - 1) c.index-own-place.result refl c.requires.many c.requires.many low c.index-own-place.is in
    low_on c.args.out.now c.loop-place.out c.args.shared.now c.index-own-place.result c.loop-place.invariant.staged.serves.serves.adds
    (each_get (IsLowStage c.args.out.now c.args.shared.now) c.args.own.now place c.index-own-place.result c.requires.low own_at)

pub loop-place-preserved : goal.loop-place-preserved
loop-place-preserved c =
    let place = c.loop-place.place in
    let low = c.loop-place-test.true in
    let own_at = at_place c.args.own.now c.args.own.now place (length c.args.own.now) (c.args.design.now.stages - 1) c.index-own-place.result refl c.requires.many c.requires.many low c.index-own-place.is in
    let table_at = at_place c.as_slice-tables.result.now c.args.table.now.stages place (length c.args.own.now) (c.args.design.now.stages - 1) c.index-tables-place.result c.as_slice-tables.ensures c.requires.slots.count c.requires.many low c.index-tables-place.is in
    let order_at =
    at_place c.as_slice-orders.result.now c.args.paths.now.orders place (length c.args.own.now) (c.args.design.now.stages - 1) c.index-orders-place.result c.as_slice-orders.ensures c.requires.paths.orders.count c.requires.many low c.index-orders-place.is
    ∙ ap Some (sym c.as_slice.ensures) in
    let made : List ServedStage = c.loop-place.made.items in
    let s : ServedStage = c.in_ok-stage.stage in
    let h = c.loop-place.invariant in
    let one = c.in_ok-stage.ensures in
    let chain = c.requires.paths.orders.each place c.as_slice.result.now order_at in
    record {
      long = ap length c.in_ok-push.ensures.items ∙ length-append made (s ∷ []) ∙ ap (λ n. n + 1) h.long;
      rest = λ k order le at.
          let before : place ≤ k = omega (arith, le) in
          let unlike : place + 1 ≢ k + 1 = λ e. omega (arith, le, e) in
          stand_on c.args.design.now c.args.choices.now c.loop-place.out c.make_stage.new.out c.args.modules.now c.args.supplies.now (place + 1) (k + 1) c.as_slice.result.now order s.nodes.items c.requires.apart chain (c.requires.paths.orders.each k order at) unlike one.ports
          one.serves (h.rest k order before at);
      staged = subst (λ (l : List ServedStage). AreStaged c.args.design.now c.args.table.now.stages c.args.choices.now c.args.supplies.now c.args.paths.now.orders c.args.modules.now c.args.shared.now c.args.own.now c.args.out.now c.make_stage.new.out l) (sym c.in_ok-push.ensures.items)
          (staged_more c.args.design.now c.args.table.now.stages c.args.choices.now c.args.supplies.now c.args.paths.now.orders c.args.modules.now c.args.shared.now c.args.own.now c.args.out.now c.loop-place.out c.make_stage.new.out made place c.index-tables-place.result
          c.as_slice.result.now c.index-own-place.result s h.long table_at order_at own_at h.staged one);
    }
