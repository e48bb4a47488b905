use Rattle.std.proofs.Common.{◌∙◌}
use Rattle.ap_vr.proofs.nets.Nets.of.Goals as goal

pub returns : goal.returns
returns c = record { names = c.in_ok-names.ensures ∙ c.requires.distinct; forms = c.in_ok-forms.ensures }
