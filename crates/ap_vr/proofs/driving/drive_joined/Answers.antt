use Rattle.std.proofs.Common.{◌∙◌, ap, refl, sym}
use Rattle.std.specs.Prelude.{option_copied}
use Rattle.ap_vr.proofs.driving.drive_joined.Goals as goal

pub returns-in-None-clause-right : goal.returns-in-None-clause-right
returns-in-None-clause-right c = rw (sym c.connection_at.ensures ∙ ap option_copied c.in-None.is) refl

pub returns-in-None-clause-driven : goal.returns-in-None-clause-driven
returns-in-None-clause-driven c = rw (sym c.connection_at.ensures ∙ ap option_copied c.in-None.is) refl

pub returns-in-Some-clause-right : goal.returns-in-Some-clause-right
returns-in-Some-clause-right c = rw (sym c.connection_at.ensures ∙ ap option_copied c.in-Some.is) c.drive_port.ensures.right

pub returns-in-Some-clause-driven : goal.returns-in-Some-clause-driven
returns-in-Some-clause-driven c = rw (sym c.connection_at.ensures ∙ ap option_copied c.in-Some.is) c.drive_port.ensures.driven
