use Rattle.std.proofs.Common.{◌∙◌, ap, if◌then◌else◌}
use Rattle.ap_flight.proofs.laws.registers_pass_on.Goals as goal

pub returns : goal.returns
returns c = λ hold register w r x h. ((λ on. h ∙ ap (λ b. if b then r.read register.number else r.read w.number) on), (λ off. h ∙ ap (λ b. if b then r.read register.number else r.read w.number) off))
