use Rattle.std.proofs.Common.{List, sym, subst}
use Rattle.std.specs.List.{AllByRecursion as Each}
use Rattle.ap_net.specs.declared.cell.Wire.{Wire}
use Rattle.ap_net.specs.Ready.{numbers}
use Rattle.ap_stage.specs.Trees.{IsShallow}
use Rattle.ap_stage.specs.Wiring.{IsWiring}
use Rattle.ap_course.specs.Homes.{AreSlots}
use Rattle.ap_course.specs.Starts.{AreConds, AreStarted, sources}
use Rattle.ap_course.proofs.Gathering.{conds_on, slots_on}
use Rattle.ap_stages.specs.Links.{IsLinkOf}
use Rattle.ap_stages.proofs.Beginning.{ground_of, ground_there, sources_low}
use Rattle.ap_stages.proofs.begin.begin_stage.Goals as goal

pub start_courses-requires-clause-ground : goal.start_courses-requires-clause-ground
start_courses-requires-clause-ground c =
    let link = subst (IsLinkOf c.args.design.now c.args.stage c.stage_link.new.out c.args.own.now.place) (sym c.in_ok-ground.ensures.link) c.in_ok-link.ensures.link in
    let wiring = subst (IsWiring _ c.args.out.now c.stage_link.new.out) (sym c.in_ok-ground.ensures.link) c.in_ok-link.ensures.wiring in
    ground_there c.args.design.now c.args.stage c.args.table.now c.args.shared.now c.args.own.now c.args.out.now c.stage_link.new.out c.in_ok-ground.ground c.requires.shared c.requires.own c.in_ok-ground.ensures.ground link wiring

pub start_courses-requires-clause-of : goal.start_courses-requires-clause-of
start_courses-requires-clause-of c =
    let link = subst (IsLinkOf c.args.design.now c.args.stage c.stage_link.new.out c.args.own.now.place) (sym c.in_ok-ground.ensures.link) c.in_ok-link.ensures.link in
    let wiring = subst (IsWiring _ c.args.out.now c.stage_link.new.out) (sym c.in_ok-ground.ensures.link) c.in_ok-link.ensures.wiring in
    ground_of c.args.design.now c.args.stage c.args.table.now c.args.shared.now c.args.own.now c.args.out.now c.stage_link.new.out c.in_ok-ground.ground c.requires.shared c.requires.own c.in_ok-ground.ensures.ground link wiring

pub start_courses-requires-clause-conds : goal.start_courses-requires-clause-conds
start_courses-requires-clause-conds c =
    subst (AreConds c.args.design.now c.stage_link.new.out.nets) (sym c.as_slice-conds.ensures)
    (conds_on c.args.design.now c.args.out.now c.stage_link.new.out c.args.own.now.conds c.in_ok-link.ensures.wiring.makes c.requires.own.conds)

pub start_courses-requires-clause-slots : goal.start_courses-requires-clause-slots
start_courses-requires-clause-slots c =
    subst (AreSlots c.stage_link.new.out.nets c.args.table.now.widths) (sym c.as_slice-slots.ensures)
    (slots_on c.args.out.now c.stage_link.new.out c.args.table.now.widths c.args.own.now.slots c.in_ok-link.ensures.wiring.makes c.requires.own.slots)

pub start_courses-requires-clause-low : goal.start_courses-requires-clause-low
start_courses-requires-clause-low c =
    let link = subst (IsLinkOf c.args.design.now c.args.stage c.stage_link.new.out c.args.own.now.place) (sym c.in_ok-ground.ensures.link) c.in_ok-link.ensures.link in
    let wiring = subst (IsWiring _ c.args.out.now c.stage_link.new.out) (sym c.in_ok-ground.ensures.link) c.in_ok-link.ensures.wiring in
    subst (λ (ws : List Wire). Each (IsShallow c.stage_link.new.out 0) (sources c.in_ok-ground.ground (numbers ws))) (sym c.as_slice-slots.ensures)
    (sources_low c.args.design.now c.args.stage c.args.table.now c.args.shared.now c.args.own.now c.args.out.now c.stage_link.new.out c.in_ok-ground.ground c.requires.shared c.requires.own c.in_ok-ground.ensures.ground link wiring c.requires.low)

pub returns : goal.returns
returns c =
    let link = subst (IsLinkOf c.args.design.now c.args.stage c.stage_link.new.out c.args.own.now.place) (sym c.in_ok-ground.ensures.link) c.in_ok-link.ensures.link in
    let wiring = subst (IsWiring _ c.args.out.now c.stage_link.new.out) (sym c.in_ok-ground.ensures.link) c.in_ok-link.ensures.wiring in
    record {
      grounded = c.in_ok-ground.ensures.ground;
      of = ground_of c.args.design.now c.args.stage c.args.table.now c.args.shared.now c.args.own.now c.args.out.now c.stage_link.new.out c.in_ok-ground.ground c.requires.shared c.requires.own c.in_ok-ground.ensures.ground link wiring;
      linked = c.stage_link.new.out;
      link = link;
      wiring = wiring;
      there = ground_there c.args.design.now c.args.stage c.args.table.now c.args.shared.now c.args.own.now c.args.out.now c.stage_link.new.out c.in_ok-ground.ground c.requires.shared c.requires.own c.in_ok-ground.ensures.ground link wiring;
      started = subst (λ (ws : List Wire). AreStarted c.args.design.now c.args.stage c.in_ok-ground.ground c.args.table.now.homes ws c.args.own.now.conds c.stage_link.new.out c.start_courses.new.out c.in_ok-courses.courses.items) c.as_slice-slots.ensures
          (subst (λ (ws : List Wire). AreStarted c.args.design.now c.args.stage c.in_ok-ground.ground c.args.table.now.homes c.as_slice-slots.result.now ws c.stage_link.new.out c.start_courses.new.out c.in_ok-courses.courses.items) c.as_slice-conds.ensures c.in_ok-courses.ensures);
    }
