use Rattle.std.proofs.Common.{◌∙◌, ap}
use Rattle.std.specs.Prelude.{◌==◌, if◌then◌else◌, bit_and, bit_or}
use Rattle.ap_net.proofs.Laws.{Makes-trans}
use Rattle.ap_div.proofs.difference.covers_by.Goals as goal

pub returns-clause-value : goal.returns-clause-value
returns-clause-value c = λ read s.
    let covers = c.in_ok-covers.ensures.value read s in
    let either = c.in_ok-either.ensures.value read covers.0 in
    let both = c.in_ok-both.ensures.value read either.0 in
    let other = c.in_ok-other.ensures.value read both.0 in
    let a = read c.args.a.number in
    let one = both.1 ∙ ap (bit_and a) other.1 in
    let zero' = either.1 ∙ ap (bit_or a) other.1 in
    (other.0, covers.1 ∙ (λ i. if read c.args.difference.number == 1 then one i else zero' i))

pub returns-clause-makes : goal.returns-clause-makes
returns-clause-makes c =
    let bits = Makes-trans _ _ _ c.in_ok-other.ensures.makes (Makes-trans _ _ _ c.in_ok-both.ensures.makes c.in_ok-either.ensures.makes) in
    Makes-trans _ _ _ bits c.in_ok-covers.ensures.makes
