use Rattle.std.proofs.Common.{arith}
use Rattle.ap_net.specs.declared.net.Role.TheVariants as role
use Rattle.ap_vr.specs.Marks.{marks}
use Rattle.ap_vr.proofs.Marks.{undriven_at, undriven_nowhere, undriven_past}
use Rattle.ap_vr.proofs.driving.first_undriven.Goals as goal

pub returns-then-lacks_driver : goal.returns-then-lacks_driver
returns-then-lacks_driver c =
    undriven_at (marks c.args.marked.now) c.args.forms.now c.loop-number.number (record { width = 0; role = role.Input }) c.lacks_driver.result _ c.loop-number.invariant c.loop-number-test.true c.lacks_driver.ensures c.if-lacks_driver.true

pub loop-number-preserved : goal.loop-number-preserved
loop-number-preserved c =
    undriven_past (marks c.args.marked.now) c.args.forms.now c.loop-number.number (record { width = 0; role = role.Input }) c.lacks_driver.result _ c.loop-number.invariant c.loop-number-test.true c.lacks_driver.ensures c.if-lacks_driver.false

pub returns : goal.returns
returns c = undriven_nowhere (marks c.args.marked.now) c.args.forms.now c.loop-number.number _ c.loop-number.invariant (omega (arith, c.loop-number-test.false))
