use Rattle.std.proofs.Common.{sym, ap, ◌∙◌}
use Rattle.std.specs.String.{string_bytes}
use Rattle.ap_program.specs.Labels.{landing_among}
use Rattle.ap_program.proofs.KeptLabels.{among_lookup}
use Rattle.ap_program.proofs.labels.Labels.landing.Goals as goal

pub returns : goal.returns
returns c = c.copied.ensures ∙ c.get.ensures.value ∙ sym (among_lookup string_bytes c.args.name.now c.self.inside.landings.entries) ∙ ap (λ pairs. landing_among pairs c.args.name.now) c.self.view_is
