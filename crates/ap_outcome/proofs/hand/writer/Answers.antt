use Rattle.std.proofs.Common.{[], ◌∷◌, inl, inr, refl}
use Rattle.ap_net.proofs.Laws.{Extends-refl, Makes-trans}
use Rattle.ap_net.specs.Pending.{IsFrom}
use Rattle.ap_net.specs.Ready.{numbers}
use Rattle.std.specs.Prelude.{option_to_list}
use Rattle.ap_stage.specs.Courses.{course_numbers}
use Rattle.ap_stage.specs.Sources.{source_numbers}
use Rattle.ap_stage.proofs.Followed.{only_later}
use Rattle.ap_stage.proofs.Listed.{each_both}
use Rattle.ap_stage.proofs.Lined.{ground_on}
use Rattle.ap_stage.proofs.Users.{course_on}
use Rattle.ap_outcome.proofs.Later.{from_between, low_net_on, net_of_on, wiring_low, wiring_only}
use Rattle.ap_outcome.proofs.hand.writer.Goals as goal

pub optional-requires-2-clause-ground : goal.optional-requires-2-clause-ground
optional-requires-2-clause-ground c = ground_on _ _ c.args.ground.now c.in_ok-guard.ensures.reads.makes c.requires.ground

pub optional-requires-2-clause-course : goal.optional-requires-2-clause-course
optional-requires-2-clause-course c = course_on _ _ c.args.ground.now c.args.course.now c.in_ok-guard.ensures.reads.makes.adds c.requires.course

pub operand-requires-clause-ground : goal.operand-requires-clause-ground
operand-requires-clause-ground c = ground_on _ _ c.args.ground.now (Makes-trans _ _ _ c.in_ok-guard.ensures.reads.makes c.in_ok-index.ensures.reads.makes) c.requires.ground

pub operand-requires-clause-course : goal.operand-requires-clause-course
operand-requires-clause-course c = course_on _ _ c.args.ground.now c.args.course.now (Makes-trans _ _ _ c.in_ok-guard.ensures.reads.makes c.in_ok-index.ensures.reads.makes).adds c.requires.course

pub returns-clause-writer : goal.returns-clause-writer
returns-clause-writer c =
    let course = c.args.course.now in
    let ground = c.args.ground.now in
    let last = c.in_ok-value.ensures.wiring.makes in
    record {
      cond = refl;
      guard = net_of_on _ _ ground course c.args.line.guard c.in_ok-guard.guard (Makes-trans _ _ _ c.in_ok-index.ensures.reads.makes last) c.in_ok-guard.ensures.net;
      index = net_of_on _ _ ground course c.args.line.index c.in_ok-index.index last c.in_ok-index.ensures.net;
      value = c.in_ok-value.ensures.net;
    }

pub returns-clause-low : goal.returns-clause-low
returns-clause-low c =
    let before = Makes-trans _ _ _ c.in_ok-guard.ensures.reads.makes c.in_ok-index.ensures.reads.makes in
    record {
      index = low_net_on _ _ c.in_ok-index.index c.in_ok-value.ensures.wiring.makes c.in_ok-index.ensures.low;
      value = wiring_low _ _ c.args.ground.now c.args.course.now c.in_ok-value.value (course_on _ _ c.args.ground.now c.args.course.now before.adds c.requires.course) c.in_ok-value.ensures.wiring;
    }

pub returns-clause-reads : goal.returns-clause-reads
returns-clause-reads c =
    let from = source_numbers c.args.ground.now c.args.course.now.row.items in
    let guard = c.in_ok-guard.ensures.reads in
    let index = c.in_ok-index.ensures.reads in
    only_later from _ _ _ guard.reads guard.makes (only_later from _ _ _ index.reads index.makes (wiring_only from _ _ c.in_ok-value.value c.in_ok-value.ensures.wiring))

pub returns-clause-from : goal.returns-clause-from
returns-clause-from c =
    let ground = c.args.ground.now in
    let course = c.args.course.now in
    let more = source_numbers ground course.row.items in
    let from = course_numbers ground course in
    let guard = c.in_ok-guard.ensures.reads.makes in
    let index = c.in_ok-index.ensures.reads.makes in
    let value = c.in_ok-value.ensures.wiring.makes in
    let before = Makes-trans _ _ _ guard index in
    let after = Makes-trans _ _ _ index value in
    let guards = from_between more from _ _ _ _ (numbers (option_to_list c.in_ok-guard.guard)) (λ n h. inr h) (Extends-refl _) guard.adds.extends after.adds.extends c.in_ok-guard.ensures.from in
    let indices = from_between more from _ _ _ _ (numbers (option_to_list c.in_ok-index.index)) (λ n h. inr h) guard.adds.extends index.adds.extends value.adds.extends c.in_ok-index.ensures.from in
    let values = from_between more from _ _ _ _ (c.in_ok-value.value.number ∷ []) (λ n h. inr h) before.adds.extends value.adds.extends (Extends-refl _) (c.in_ok-value.ensures.wiring.yields.result, tt) in
    (inl (inl refl), (values.0, each_both (IsFrom from c.args.out.now c.operand.new.out) (numbers (option_to_list c.in_ok-guard.guard)) (numbers (option_to_list c.in_ok-index.index)) guards indices))
