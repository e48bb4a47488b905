use Rattle.std.proofs.Common.{◌∙◌, ap}
use Rattle.std.specs.Prelude.{bit_or}
use Rattle.ap_net.proofs.Laws.{Makes-trans}
use Rattle.ap_div.proofs.quotient.top_or.Goals as goal

pub returns-clause-value : goal.returns-clause-value
returns-clause-value c = λ read s.
    let either = c.in_ok-either.ensures.value read s in
    let top = c.in_ok-top.ensures.value read either.0 in
    (top.0, either.1 ∙ ap (λ n. bit_or n (read c.args.other.number)) top.1)

pub returns-clause-makes : goal.returns-clause-makes
returns-clause-makes c = Makes-trans _ _ _ c.in_ok-top.ensures.makes c.in_ok-either.ensures.makes
