use Rattle.std.proofs.Common.{◌≡◌, ◌<◌, get_or, length, take, Option, Some, None, refl, sym, ap, ◌∙◌, arith}
use Rattle.std.specs.Prelude.{slice_get, unwrap_or}
use Rattle.std.proofs.lemmas.List.{take_more}
use Rattle.std.proofs.lemmas.Option.{slice_get_read, slice_get_within}
use Rattle.ap_net.specs.declared.cell.Wire.{Wire}
use Rattle.ap_net.proofs.Lists.{some_same}
use Rattle.ap_ctl.proofs.Beside.{EachPair-push, each_index}
use Rattle.ap_pipe.specs.declared.table.Home.{Home}
use Rattle.ap_stage.specs.declared.node.Course.{Course}
use Rattle.ap_outcome.specs.Outcomes.{CanLeave, IsLeavingOf}
use Rattle.ap_outcome.proofs.leave.leavings.Goals as goal

abbrev no_home : Home
no_home = record { instr = 0; local = 0; slot = 0 }

pub loop-home-preserved : goal.loop-home-preserved
loop-home-preserved c =
    let courses = c.args.courses.now in
    let homes = c.args.homes.now in
    let n = c.loop-home.home-index in
    let inside : n < length homes = omega arith in
    let home : Home = get_or homes n no_home in
    let can : CanLeave courses home = each_index (CanLeave courses) homes n no_home c.requires.homes inside in
    let more = take_more homes n no_home inside in
    let course = c.index-courses-home.result in
    let at : slice_get courses home.instr ≡ Some course = slice_get_read courses (length courses) home.instr course refl (slice_get_within courses home.instr can.course can.at) c.index-courses-home.is in
    let same : can.course ≡ course = some_same (sym can.at ∙ at) in
    let has : slice_get course.row.items home.local ≡ Some (Some can.net) = ap (λ (x : Course). slice_get x.row.items home.local) (sym same) ∙ can.has in
    let found : Some can.net ≡ Some c.in-Some.net = sym (ap (λ (o : Option (Option Wire)). unwrap_or o None) has) ∙ sym c.local_net.ensures ∙ c.in-Some.is in
    rw (c.in_ok-push.ensures.ok, more) (EachPair-push (IsLeavingOf courses) (take n homes) c.loop-home.list home (record { cond = course.cond; net = c.in-Some.net }) c.loop-home.invariant
    (record { course = course; at = at; cond = refl; has = has ∙ ap Some found }))
