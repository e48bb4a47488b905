use Rattle.std.proofs.Common.{◌≡◌, ◌≢◌, ◌<◌, ◌≤◌, length, take, refl, sym, ap, subst, ◌∙◌, arith, ⊎_elim}
use Rattle.std.specs.Prelude.{slice_get}
use Rattle.std.specs.List.{AllByRecursion as Each}
use Rattle.std.proofs.lemmas.Bool.{cases_lt}
use Rattle.std.proofs.lemmas.Option.{same_Some, slice_get_read, slice_get_within}
use Rattle.ap_stage.specs.declared.node.Course.{Course}
use Rattle.ap_stage.specs.Chained.{IsBefore, IsServedNode}
use Rattle.ap_stage.specs.Served.{StayReady, port_of}
use Rattle.ap_stage.proofs.Chained.{HasResults, all_full, can_serve, node_on, nodes_next, only_on, ready_more, ready_none, same_more, same_none, served_node_on, served_results, serves_more, serves_none, take_on, take_whole, whole_on}
use Rattle.ap_stage.proofs.Lined.{ground_adds}
use Rattle.ap_stage.proofs.Listed.{each_by_place}
use Rattle.ap_stage.proofs.chain.serve_stage.Goals as goal

pub loop-place-init : goal.loop-place-init
loop-place-init c = record {
  courses = c.requires.courses;
  same = same_none c.args.courses.now;
  whole = c.requires.whole;
  only = c.requires.only;
  served = λ p n low at. absurd (omega arith);
  rest = c.requires.nodes;
  serves = serves_none c.args.out.now;
  ready = ready_none c.args.ground.now c.args.out.now c.args.courses.now;
}

pub serve_node-requires-clause-top : goal.serve_node-requires-clause-top
serve_node-requires-clause-top c = c.loop-place.invariant.serves.serves.adds.extends.name ∙ c.requires.top

pub serve_node-requires-clause-fresh : goal.serve_node-requires-clause-fresh
serve_node-requires-clause-fresh c = c.loop-place.invariant.serves.serves.fresh c.requires.fresh

pub serve_node-requires-clause-ground : goal.serve_node-requires-clause-ground
serve_node-requires-clause-ground c = ground_adds _ _ c.args.ground.now c.loop-place.invariant.serves.serves.adds c.requires.ground

pub serve_node-requires-clause-courses : goal.serve_node-requires-clause-courses
serve_node-requires-clause-courses c = c.loop-place.invariant.courses

pub serve_node-requires-clause-node : goal.serve_node-requires-clause-node
serve_node-requires-clause-node c =
    let place = c.loop-place.place in
    let nodes = c.args.nodes.now in
    let inside : place < length nodes = omega arith in
    let at = slice_get_read nodes (length nodes) place c.index-nodes-place.result refl inside c.index-nodes-place.is in
    let low : place ≤ place = omega arith in
    (c.loop-place.invariant.rest place c.index-nodes-place.result low at).0

pub serve_node-requires-clause-can : goal.serve_node-requires-clause-can
serve_node-requires-clause-can c =
    let h = c.loop-place.invariant in
    let place = c.loop-place.place in
    let nodes = c.args.nodes.now in
    let courses = c.loop-place.courses in
    let ground = c.args.ground.now in
    let out = c.loop-place.out in
    let node = c.index-nodes-place.result in
    let inside : place < length nodes = omega arith in
    let at = slice_get_read nodes (length nodes) place node refl inside c.index-nodes-place.is in
    let low : place ≤ place = omega arith in
    can_serve out ground (IsBefore nodes place) (port_of node) courses h.courses h.whole (h.rest place node low at).1
    (λ port done. subst (λ u. Each (λ (x : Course). HasResults x u) courses) done.4 (served_results out ground c.args.modules.now courses done.1 (h.served done.0 done.1 done.2 done.3) h.whole))

pub loop-place-preserved : goal.loop-place-preserved
loop-place-preserved c =
    let h = c.loop-place.invariant in
    let y = c.in_ok-serve_node.ensures in
    let place = c.loop-place.place in
    let nodes = c.args.nodes.now in
    let modules = c.args.modules.now in
    let old = c.loop-place.courses in
    let new = c.serve_node.new.courses in
    let ground = c.args.ground.now in
    let before = c.loop-place.out in
    let after = c.serve_node.new.out in
    let node = c.index-nodes-place.result in
    let v = port_of node in
    let inside : place < length nodes = omega arith in
    let at = slice_get_read nodes (length nodes) place node refl inside c.index-nodes-place.is in
    let later = y.serves.serves.adds.extends in
    let next = nodes_next nodes place node at in
    rw next (record {
      courses = y.courses;
      same = same_more v c.args.courses.now old new h.same y.go_on;
      whole = whole_on v old new y.go_on h.whole;
      only = only_on v nodes old new y.go_on h.only;
      served = λ p n low is. ⊎_elim
          (λ (lt : p < place). served_node_on v before after ground modules old new n later y.go_on (h.served p n lt is))
          (λ (ge : place ≤ p).
          let same : p ≡ place = omega arith in
          let node_is : node ≡ n = same_Some node n (sym at ∙ sym (ap (slice_get nodes) same) ∙ is) in
          subst (IsServedNode after ground modules new) node_is y.served)
          (cases_lt p place);
      rest = λ p n le is.
          let from : place ≤ p = omega arith in
          let can = h.rest p n from is in
          let unlike : p ≢ place = λ e. omega arith in (
            node_on before after ground modules old new node n (c.requires.apart p place n node is at unlike) y.serves y.go_on h.courses can.0,
            take_on v (port_of n) (IsBefore nodes p) old new y.go_on can.1,
          );
      serves = serves_more (take place nodes) node c.args.out.now before after h.serves y.serves;
      ready = ready_more ground (take place nodes) node c.args.out.now before after c.args.courses.now old new h.serves.serves.adds.extends later h.ready y.ready;
    })

pub returns-clause-full : goal.returns-clause-full
returns-clause-full c =
    let h = c.loop-place.invariant in
    all_full c.loop-place.out c.args.ground.now c.args.modules.now c.args.nodes.now c.loop-place.courses h.courses h.whole h.only (λ p n lt at. h.served p n (omega arith) at)

pub returns-clause-served : goal.returns-clause-served
returns-clause-served c =
    each_by_place (IsServedNode c.loop-place.out c.args.ground.now c.args.modules.now c.loop-place.courses) c.args.nodes.now (λ p n at.
    let within = slice_get_within c.args.nodes.now p n at in
    c.loop-place.invariant.served p n (omega arith) at)

pub returns-clause-ready : goal.returns-clause-ready
returns-clause-ready c =
    let all = take_whole c.args.nodes.now c.loop-place.place (omega arith) in
    subst (λ nodes. StayReady c.args.ground.now nodes c.args.out.now c.args.courses.now c.loop-place.out c.loop-place.courses) all c.loop-place.invariant.ready
