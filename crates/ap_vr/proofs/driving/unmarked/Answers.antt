use Rattle.std.proofs.Common.{◌∙◌, ◌+◌, ◌∷◌, [], false, ap, refl, arith}
use Rattle.std.proofs.lemmas.List.{length-append}
use Rattle.ap_vr.proofs.Marks.{marks_none}
use Rattle.ap_vr.proofs.driving.unmarked.Goals as goal

pub loop-init : goal.loop-init
loop-init c = rw c.new-marked.ensures.items (refl, refl)

pub loop-preserved : goal.loop-preserved
loop-preserved c = rw c.in_ok-push.ensures.items (
  marks_none c.loop.marked.items c.loop.invariant.0,
  length-append c.loop.marked.items (false ∷ []) ∙ ap (λ n. n + 1) c.loop.invariant.1,
)

pub returns-clause-none : goal.returns-clause-none
returns-clause-none c = c.loop.invariant.0

pub returns-clause-length : goal.returns-clause-length
returns-clause-length c = omega (arith, c.loop.invariant.1, c.len-end.ensures)
