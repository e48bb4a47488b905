use Rattle.std.proofs.Common.{◌∙◌}
use Rattle.ap_flat.proofs.Asking.{other_name}
use Rattle.ap_flat.proofs.Storages.{number_differs, number_err}
use Rattle.ap_flat.proofs.outside.number_of.Goals as goal

pub returns-in_default-clause-none : goal.returns-in_default-clause-none
returns-in_default-clause-none c = number_err c.args.digits.now c.in_default.ensures.value

pub returns-clause-none : goal.returns-clause-none
returns-clause-none c = number_differs c.args.digits.now c.in-Ok.value c.in-Ok.ensures.value
    (λ e. other_name c.as_bytes.result.now c.args.digits.now c.eq.result c.eq.ensures c.if-eq.false (c.as_bytes.ensures.value ∙ c.in_ok-text.ensures.ok ∙ e))
