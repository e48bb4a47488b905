use Rattle.std.proofs.Common.{◌≡◌, ◌<◌, ◌≤◌, ◌∙◌, ap, arith, flat_map, get_or, length, rules, subst, sym}
use Rattle.std.proofs.lemmas.List.{take_all}
use Rattle.ap_net.proofs.Laws.{Makes-refl, Makes-trans}
use Rattle.ap_comb.specs.Choices.{values_of}
use Rattle.ap_store.specs.Cells.{after_writes, write_order}
use Rattle.ap_store.specs.Writers.{IsWriter, numbered_write}
use Rattle.ap_store.proofs.Chosen.{writes_more}
use Rattle.ap_store.proofs.Orders.{order_at}
use Rattle.ap_store.proofs.WritePorts.{IsWriter-Makes, no_port, numbered_is}
use Rattle.ap_store.proofs.writes.next_cells.Goals as goal

pub loop-port-init : goal.loop-port-init
loop-port-init c = record {
  count = ap length c.in_ok-next.ensures.items;
  nets = rw c.in_ok-next.ensures.items c.requires.cells;
  value = λ read s. (s, ap (values_of read) c.in_ok-next.ensures.items);
  makes = Makes-refl _;
}

pub bounds-ports-port : goal.bounds-ports-port
bounds-ports-port c =
    let order = c.deref-port-items.ensures.value ∙ c.in_ok-order.ensures in
    let below = order_at c.args.stages.now c.deref-port-items.result.now c.loop-port.port-index order c.loop-port-test.true in
    omega (arith, below, c.requires.stages)

pub written-requires-clause-fresh : goal.written-requires-clause-fresh
written-requires-clause-fresh c = c.loop-port.invariant.makes.fresh c.requires.fresh

pub written-requires-clause-port : goal.written-requires-clause-port
written-requires-clause-port c =
    let order = c.deref-port-items.ensures.value ∙ c.in_ok-order.ensures in
    let n = get_or c.deref-port-items.result.now c.loop-port.port-index 0 in
    let below = order_at c.args.stages.now c.deref-port-items.result.now c.loop-port.port-index order c.loop-port-test.true in
    let inside : n < length c.args.ports.now = omega (arith, below, c.requires.stages) in
    let long : length c.args.cells.now ≡ length c.deref.result.now = sym (ap length c.deref.ensures.value ∙ c.loop-port.invariant.count) in
    subst (λ count. IsWriter c.loop-port.out.nets c.args.width count (get_or c.args.ports.now n no_port)) long (IsWriter-Makes _ _ c.args.width (length c.args.cells.now) _ c.loop-port.invariant.makes (c.requires.ports n no_port inside))

pub written-requires-clause-cells : goal.written-requires-clause-cells
written-requires-clause-cells c = rw c.deref.ensures.value c.loop-port.invariant.nets

pub loop-port-preserved : goal.loop-port-preserved
loop-port-preserved c =
    let h = c.loop-port.invariant in
    let order = c.deref-port-items.ensures.value ∙ c.in_ok-order.ensures in
    let n = get_or c.deref-port-items.result.now c.loop-port.port-index 0 in
    let below = order_at c.args.stages.now c.deref-port-items.result.now c.loop-port.port-index order c.loop-port-test.true in
    let inside : n < length c.args.ports.now = omega (arith, below, c.requires.stages) in
    let y = rw c.deref.ensures.value at c.in_ok-next-2.ensures in
    let lt : c.loop-port.port-index < length (write_order c.args.stages.now) = subst (λ l. c.loop-port.port-index < length l) order c.loop-port-test.true in
    record {
      count = y.count ∙ h.count;
      nets = y.nets;
      value = λ read s.
          let now = y.value read s in
          let before = h.value read now.0 in
          let place : n ≡ get_or (write_order c.args.stages.now) c.loop-port.port-index 0 = ap (λ l. get_or l c.loop-port.port-index 0) order in (
            before.0,
            writes_more (numbered_write read c.args.ports.now) (write_order c.args.stages.now) c.loop-port.port-index 0 (values_of read c.args.cells.now) (values_of read c.loop-port.next.items) _ lt before.1
                (now.1 ∙ ap (after_writes (values_of read c.loop-port.next.items)) (numbered_is read c.args.ports.now n inside ∙ ap (numbered_write read c.args.ports.now) place)),
          );
      makes = Makes-trans _ _ _ h.makes y.makes;
    }

pub returns-clause-value : goal.returns-clause-value
returns-clause-value c = λ read s.
    let h = c.loop-port.invariant.value read s in
    let order = c.deref-port-items.ensures.value ∙ c.in_ok-order.ensures in
    let all = take_all c.loop-port.port-index (write_order c.args.stages.now) (subst (λ l. length l ≤ c.loop-port.port-index) order c.loop-port-test.false) in
    (h.0, h.1 ∙ ap (λ l. after_writes (values_of read c.args.cells.now) (flat_map (numbered_write read c.args.ports.now) l)) all)

pub offset_bounds-ports-port : goal.offset_bounds-ports-port
offset_bounds-ports-port c =
    let order = c.deref-port-items.ensures.value ∙ c.in_ok-order.ensures in
    let below = order_at c.args.stages.now c.deref-port-items.result.now c.loop-port.port-index order c.loop-port-test.true in
    let inside : get_or c.deref-port-items.result.now c.loop-port.port-index 0 < length c.args.ports.now = omega (arith, below, c.requires.stages) in
    search rules
