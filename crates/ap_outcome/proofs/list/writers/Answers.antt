use Rattle.std.proofs.Common.{◌<◌, get_or, length, take, None, refl, sym, subst, ◌∙◌, arith}
use Rattle.std.proofs.lemmas.List.{take_more}
use Rattle.std.proofs.lemmas.Option.{slice_get_read, slice_get_within}
use Rattle.ap_desc.specs.declared.design.Arg.TheVariants as arg
use Rattle.ap_net.specs.Pending.{IsFrom}
use Rattle.ap_net.proofs.Laws.{Extends-refl}
use Rattle.ap_net.proofs.Lists.{some_same}
use Rattle.ap_ctl.proofs.Beside.{EachPair-push, each_index}
use Rattle.ap_stage.specs.Courses.{IsCourse, course_numbers, courses_numbers}
use Rattle.ap_stage.proofs.Coursed.{among_at}
use Rattle.ap_stage.proofs.Followed.{only_later}
use Rattle.ap_stage.proofs.Lined.{ground_on}
use Rattle.ap_stage.proofs.Listed.{each_at}
use Rattle.ap_stage.proofs.Users.{course_on}
use Rattle.ap_effect.specs.declared.line.PortLine.{PortLine}
use Rattle.ap_effect.specs.Writers.{writer_numbers, writing_numbers}
use Rattle.ap_outcome.specs.Outcomes.{CanHandIn, HasCourse, IsLineWriter}
use Rattle.ap_outcome.proofs.Later.{from_between, from_on, low_on, low_push, only_among, writers_on, writing_push}
use Rattle.ap_outcome.proofs.list.writers.Goals as goal

abbrev no_line : PortLine
no_line = record { instr = 0; index = None; value = arg.Local 0; guard = None }

pub writer-requires-clause-ground : goal.writer-requires-clause-ground
writer-requires-clause-ground c = ground_on _ _ c.args.ground.now c.loop-line.invariant.reads.makes c.requires.ground

pub writer-requires-clause-course : goal.writer-requires-clause-course
writer-requires-clause-course c =
    let courses = c.args.courses.now in
    let inside : c.loop-line.line-index < length c.args.lines.now = omega arith in
    let line : PortLine = get_or c.args.lines.now c.loop-line.line-index no_line in
    let has : HasCourse courses line = each_index (HasCourse courses) c.args.lines.now c.loop-line.line-index no_line c.requires.lines inside in
    let at = slice_get_read courses (length courses) line.instr c.index-courses-line.result refl (slice_get_within courses line.instr has.course has.at) c.index-courses-line.is in
    course_on _ _ c.args.ground.now c.index-courses-line.result c.loop-line.invariant.reads.makes.adds (each_at (IsCourse c.args.out.now c.args.ground.now) courses line.instr c.index-courses-line.result c.requires.courses at)

pub writer-requires-clause-can : goal.writer-requires-clause-can
writer-requires-clause-can c =
    let courses = c.args.courses.now in
    let inside : c.loop-line.line-index < length c.args.lines.now = omega arith in
    let line : PortLine = get_or c.args.lines.now c.loop-line.line-index no_line in
    let has : HasCourse courses line = each_index (HasCourse courses) c.args.lines.now c.loop-line.line-index no_line c.requires.lines inside in
    let at = slice_get_read courses (length courses) line.instr c.index-courses-line.result refl (slice_get_within courses line.instr has.course has.at) c.index-courses-line.is in
    subst (λ x. CanHandIn x line) (some_same (sym has.at ∙ at)) has.can

pub loop-line-preserved : goal.loop-line-preserved
loop-line-preserved c =
    let h = c.loop-line.invariant in
    let y = c.in_ok-made.ensures in
    let courses = c.args.courses.now in
    let ground = c.args.ground.now in
    let lines = c.args.lines.now in
    let n = c.loop-line.line-index in
    let inside : n < length lines = omega arith in
    let line : PortLine = get_or lines n no_line in
    let has : HasCourse courses line = each_index (HasCourse courses) lines n no_line c.requires.lines inside in
    let at = slice_get_read courses (length courses) line.instr c.index-courses-line.result refl (slice_get_within courses line.instr has.course has.at) c.index-courses-line.is in
    let more = take_more lines n no_line inside in
    let new = c.writer.new.out in
    let old = c.args.out.now in
    let course = c.index-courses-line.result in
    let from = courses_numbers ground courses in
    rw (c.in_ok-push.ensures.ok, more) (record {
      each = EachPair-push (IsLineWriter new ground courses) (take n lines) c.loop-line.list line c.in_ok-made.made (writers_on c.loop-line.out new ground courses (take n lines) c.loop-line.list y.reads.makes h.each)
          (record { course = c.index-courses-line.result; at = at; writer = y.writer });
      low = low_push new c.loop-line.list c.in_ok-made.made (low_on c.loop-line.out new c.loop-line.list y.reads.makes h.low) y.low;
      from = writing_push (IsFrom from old new) c.loop-line.list c.in_ok-made.made (from_on from old c.loop-line.out new (writing_numbers c.loop-line.list) y.reads.makes.adds.extends h.from)
          (from_between (course_numbers ground course) from old c.loop-line.out new new (writer_numbers c.in_ok-made.made) (among_at ground courses line.instr course at) h.reads.makes.adds.extends y.reads.makes.adds.extends (Extends-refl new) y.from);
      reads = only_later (courses_numbers ground courses) _ _ _ h.reads.reads h.reads.makes (only_among ground courses line.instr c.index-courses-line.result _ _ at y.reads);
    })
