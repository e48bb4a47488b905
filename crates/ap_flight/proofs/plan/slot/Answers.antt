use Rattle.std.proofs.Common.{◌∷◌, [], ◌∙◌, sym, ap, append_assoc}
use Rattle.std.specs.Fmt.{decimal}
use Rattle.ap_flight.proofs.plan.slot.Goals as goal

pub returns-clause-name : goal.returns-clause-name
returns-clause-name c = c.in_ok-name-2.ensures ∙ c.as_bytes.ensures.value ∙ c.in_ok-name.ensures.ok
    ∙ ap (λ l. 108 ∷ 95 ∷ l) (sym (append_assoc (decimal c.args.stage) (95 ∷ []) (decimal c.args.slot)))
