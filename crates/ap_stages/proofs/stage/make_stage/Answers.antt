use Rattle.std.proofs.Common.{List, length, sym, ap, subst, ◌∙◌}
use Rattle.std.specs.List.{AllByRecursion as Each}
use Rattle.std.proofs.lemmas.List.{with_items_is}
use Rattle.ap_stage.specs.declared.chain.Node.{Node}
use Rattle.ap_stage.specs.declared.node.Course.{Course}
use Rattle.ap_stage.specs.Chained.{AreApart, AreNodes, IsServedNode, IsWhole, UsesOnly}
use Rattle.ap_stage.specs.Courses.{AreSame, IsCourse}
use Rattle.ap_stage.specs.Served.{ServesNodes, StayReady}
use Rattle.ap_stages.specs.Staged.{IsStaged}
use Rattle.ap_stages.proofs.Making.{can_make}
use Rattle.ap_stages.proofs.Same.{same_long}
use Rattle.ap_stages.proofs.Staged.{first_apart, first_courses, first_nodes, first_only, first_whole, grounded, is_staged}
use Rattle.ap_stages.proofs.stage.make_stage.Goals as goal

pub stage_nodes-requires : goal.stage_nodes-requires
stage_nodes-requires c = can_make c.args.design.now c.args.out.now c.args.modules.now c.args.choices.now c.args.supplies.now c.args.number c.args.order.now c.requires.choices c.requires.order c.requires.stand

pub serve_stage-requires-clause-ground : goal.serve_stage-requires-clause-ground
serve_stage-requires-clause-ground c =
    grounded c.args.design.now c.args.number c.args.table.now c.args.choices.now c.args.supplies.now c.args.order.now c.args.modules.now c.args.shared.now c.args.own.now c.args.out.now c.begin_stage.new.out c.in_ok-begun.begun.ground c.in_ok-begun.begun.courses.items c.in_ok-nodes.nodes.items
    c.in_ok-begun.ensures c.requires.own.conds.long c.requires.choices c.requires.order c.requires.stand c.requires.apart c.in_ok-nodes.ensures

pub serve_stage-requires-clause-courses : goal.serve_stage-requires-clause-courses
serve_stage-requires-clause-courses c =
    subst (Each (IsCourse c.begin_stage.new.out c.in_ok-begun.begun.ground)) (sym c.deref_mut.ensures.value)
    (first_courses c.args.design.now c.args.number c.args.table.now c.args.choices.now c.args.supplies.now c.args.order.now c.args.modules.now c.args.shared.now c.args.own.now c.args.out.now c.begin_stage.new.out c.in_ok-begun.begun.ground c.in_ok-begun.begun.courses.items c.in_ok-nodes.nodes.items
    c.in_ok-begun.ensures c.requires.own.conds.long c.requires.choices c.requires.order c.requires.stand c.requires.apart c.in_ok-nodes.ensures)

pub serve_stage-requires-clause-whole : goal.serve_stage-requires-clause-whole
serve_stage-requires-clause-whole c =
    subst (Each IsWhole) (sym c.deref_mut.ensures.value)
    (first_whole c.args.design.now c.args.number c.args.table.now c.args.choices.now c.args.supplies.now c.args.order.now c.args.modules.now c.args.shared.now c.args.own.now c.args.out.now c.begin_stage.new.out c.in_ok-begun.begun.ground c.in_ok-begun.begun.courses.items c.in_ok-nodes.nodes.items
    c.in_ok-begun.ensures c.requires.own.conds.long c.requires.choices c.requires.order c.requires.stand c.requires.apart c.in_ok-nodes.ensures)

pub serve_stage-requires-clause-nodes : goal.serve_stage-requires-clause-nodes
serve_stage-requires-clause-nodes c =
    subst (λ (ns : List Node). AreNodes c.begin_stage.new.out c.in_ok-begun.begun.ground c.deref_mut.result.now ns c.args.modules.now 0) (sym c.deref.ensures.value)
    (subst (λ (cs : List Course). AreNodes c.begin_stage.new.out c.in_ok-begun.begun.ground cs c.in_ok-nodes.nodes.items c.args.modules.now 0) (sym c.deref_mut.ensures.value)
    (first_nodes c.args.design.now c.args.number c.args.table.now c.args.choices.now c.args.supplies.now c.args.order.now c.args.modules.now c.args.shared.now c.args.own.now c.args.out.now c.begin_stage.new.out c.in_ok-begun.begun.ground c.in_ok-begun.begun.courses.items c.in_ok-nodes.nodes.items
    c.in_ok-begun.ensures c.requires.own.conds.long c.requires.choices c.requires.order c.requires.stand c.requires.apart c.in_ok-nodes.ensures))

pub serve_stage-requires-clause-apart : goal.serve_stage-requires-clause-apart
serve_stage-requires-clause-apart c =
    subst (λ (ns : List Node). AreApart ns) (sym c.deref.ensures.value)
    (first_apart c.args.design.now c.args.number c.args.table.now c.args.choices.now c.args.supplies.now c.args.order.now c.args.modules.now c.args.shared.now c.args.own.now c.args.out.now c.begin_stage.new.out c.in_ok-begun.begun.ground c.in_ok-begun.begun.courses.items c.in_ok-nodes.nodes.items
    c.in_ok-begun.ensures c.requires.own.conds.long c.requires.choices c.requires.order c.requires.stand c.requires.apart c.in_ok-nodes.ensures)

pub serve_stage-requires-clause-only : goal.serve_stage-requires-clause-only
serve_stage-requires-clause-only c =
    subst (λ (ns : List Node). Each (UsesOnly ns) c.deref_mut.result.now) (sym c.deref.ensures.value)
    (subst (Each (UsesOnly c.in_ok-nodes.nodes.items)) (sym c.deref_mut.ensures.value)
    (first_only c.args.design.now c.args.number c.args.table.now c.args.choices.now c.args.supplies.now c.args.order.now c.args.modules.now c.args.shared.now c.args.own.now c.args.out.now c.begin_stage.new.out c.in_ok-begun.begun.ground c.in_ok-begun.begun.courses.items c.in_ok-nodes.nodes.items
    c.in_ok-begun.ensures c.requires.own.conds.long c.requires.choices c.requires.order c.requires.stand c.requires.apart c.in_ok-nodes.ensures))

pub returns : goal.returns
returns c =
    let y = c.in_ok-serve_stage.ensures in
    let row = c.in_ok-begun.begun.courses in
    let new = c.serve_stage.new.courses in
    let long = same_long c.deref_mut.result.now new y.same ∙ ap length c.deref_mut.ensures.value ∙ sym row.ok.0 in
    let same = subst (λ (cs : List Course). AreSame cs new) c.deref_mut.ensures.value y.same in
    let served = subst (Each (IsServedNode c.serve_stage.new.out c.in_ok-begun.begun.ground c.args.modules.now new)) c.deref.ensures.value y.served in
    let serves = subst (λ (ns : List Node). ServesNodes ns c.begin_stage.new.out c.serve_stage.new.out) c.deref.ensures.value y.serves in
    let stay = subst (λ (cs : List Course). StayReady c.in_ok-begun.begun.ground c.in_ok-nodes.nodes.items c.begin_stage.new.out cs c.serve_stage.new.out new) c.deref_mut.ensures.value
    (subst (λ (ns : List Node). StayReady c.in_ok-begun.begun.ground ns c.begin_stage.new.out c.deref_mut.result.now c.serve_stage.new.out new) c.deref.ensures.value y.ready) in
    subst (λ items. IsStaged c.args.design.now c.args.number c.args.table.now c.args.choices.now c.args.supplies.now c.args.order.now c.args.modules.now c.args.shared.now c.args.own.now c.args.out.now c.serve_stage.new.out c.in_ok-begun.begun.ground items c.in_ok-nodes.nodes.items)
    (sym (with_items_is row new long))
    (is_staged c.args.design.now c.args.number c.args.table.now c.args.choices.now c.args.supplies.now c.args.order.now c.args.modules.now c.args.shared.now c.args.own.now c.args.out.now c.begin_stage.new.out c.in_ok-begun.begun.ground c.in_ok-begun.begun.courses.items c.in_ok-nodes.nodes.items
    c.in_ok-begun.ensures c.requires.own.conds.long c.requires.choices c.requires.order c.requires.stand c.requires.apart c.in_ok-nodes.ensures
    c.serve_stage.new.out new y.courses same y.full served serves stay)
