use Rattle.std.proofs.Common.{refl}
use Rattle.ap_vr.proofs.Marks.{number_within}
use Rattle.ap_vr.proofs.driving.drive_port.Goals as goal

pub returns-then-not-output-clause-right : goal.returns-then-not-output-clause-right
returns-then-not-output-clause-right c = rw c.if-not-output.true refl

pub returns-then-not-output-clause-driven : goal.returns-then-not-output-clause-driven
returns-then-not-output-clause-driven c = rw c.if-not-output.true refl

pub drive-requires : goal.drive-requires
drive-requires c = number_within c.args.nets.now c.args.marked.now.items c.args.marked.now.items _ _ c.requires refl c.number.ensures

pub returns-clause-right : goal.returns-clause-right
returns-clause-right c = rw (c.if-not-output.false, ← c.number.ensures) c.drive.ensures.right

pub returns-clause-driven : goal.returns-clause-driven
returns-clause-driven c = rw (c.if-not-output.false, ← c.number.ensures) c.drive.ensures.driven
