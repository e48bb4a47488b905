use Rattle.std.proofs.Common.{is_some, sym, ap, ◌∙◌}
use Rattle.std.specs.String.{string_bytes}
use Rattle.ap_program.proofs.KeptLabels.{add_is}
use Rattle.ap_program.proofs.labels.Labels.add.Goals as goal

pub returns : goal.returns
returns c = rw c.in_ok-_before.ensures.entries (add_is string_bytes c.args.name.now c.in_ok-name.name c.args.landing c.self.inside.landings.entries c.args.self.now c.in_ok-name.ensures.ok c.self.view_is (ap is_some (sym c.landing.ensures) ∙ sym c.is_some.ensures ∙ c.if-is_some.false))
