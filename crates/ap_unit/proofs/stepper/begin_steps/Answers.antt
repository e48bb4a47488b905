use Rattle.ap_unit.proofs.Begun.{begun}
use Rattle.ap_unit.proofs.stepper.begin_steps.Goals as goal

pub returns-clause-unit : goal.returns-clause-unit
returns-clause-unit c =
    let k = c.count_width-k.ensures in
    begun c.drive_outputs.new.out c.compare_count.new.out.name c.in_ok-ports.ports c.in_ok-count.count c.in_ok-running.running c.in_ok-held.held c.args.w c.count_width-k.result
    c.in_ok-ports.ensures.ports c.in_ok-count.ensures.wire c.in_ok-held.ensures.pair c.in_ok-running.ensures.wire c.in_ok-drive_outputs.ensures.ok k.room k.some k.few c.requires.low c.requires.high

pub drive_outputs-requires-clause-low : goal.drive_outputs-requires-clause-low
drive_outputs-requires-clause-low c = rw c.in_ok-ports.ensures.ports c.requires.low

pub drive_outputs-requires-clause-high : goal.drive_outputs-requires-clause-high
drive_outputs-requires-clause-high c = rw c.in_ok-ports.ensures.ports c.requires.high
