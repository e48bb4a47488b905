use Rattle.ap_merge.specs.Selects.{depth}
use Rattle.ap_stage.specs.Courses.{HandsIn, courses_numbers, users_of}
use Rattle.ap_stage.proofs.Driven.{drives_late, late_carries, late_low}
use Rattle.ap_stage.proofs.serve.drive_part.Goals as goal

pub returns-clause-part : goal.returns-clause-part
returns-clause-part c =
    let y = c.in_ok-net.ensures in
    let cell = c.in_ok-cell.ensures in
    record {
      carries = late_carries (HandsIn c.args.ground.now (users_of c.args.port c.args.courses.now) c.args.part) _ _ c.in_ok-net.net c.args.to cell.drives.extends cell.ok (y.yields.reads.late c.args.to c.requires.late).net y.carries (λ r s. cell.value.holds r s);
      low = late_low (depth c.args.select.now) _ _ c.in_ok-net.net c.args.to cell.drives.extends cell.ok y.low;
    }

pub returns-clause-drives : goal.returns-clause-drives
returns-clause-drives c =
    let y = c.in_ok-net.ensures in
    let cell = c.in_ok-cell.ensures in
    drives_late (courses_numbers c.args.ground.now c.args.courses.now) _ _ _ c.in_ok-net.net c.args.to y.makes y.yields cell.ok cell.drives
