use Rattle.std.proofs.Common.{◌<◌, ◌∙◌, refl, arith}
use Rattle.std.proofs.lemmas.Bool.{lt-ltb}
use Rattle.ap_comb.proofs.avg.average.Goals as goal

pub returns-then-a-eq1-clause-value : goal.returns-then-a-eq1-clause-value
returns-then-a-eq1-clause-value c = λ read s.
    let zero = c.in_ok-zero.ensures.value read s in
    (zero.0, zero.1 ∙ rw c.if-a-eq1.true refl)

pub returns-clause-value : goal.returns-clause-value
returns-clause-value c =
    let more : 1 < c.args.a.width = omega arith in
    rw (lt-ltb 1 c.args.a.width more) c.half_of_sum.ensures.value
