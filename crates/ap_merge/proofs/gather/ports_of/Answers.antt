use Rattle.std.proofs.Common.{◌∙◌, ap, arith, sym}
use Rattle.std.specs.List.{list_any}
use Rattle.ap_merge.specs.Choices.{is_port}
use Rattle.ap_merge.proofs.Gathered.{known_step, new_step}
use Rattle.ap_merge.proofs.gather.ports_of.Goals as goal
use Rattle.ap_merge.proofs.gather.ports_of.Goals.{then-not-is_known+in_ok-push, else-not-is_known}

pub loop-used-preserved : goal.loop-used-preserved
loop-used-preserved c =
    let used = c.used-item.result in
    let tested = ap (list_any (is_port used.port)) (sym c.as_slice.ensures) ∙ sym c.is_known.ensures in
    elim c.if-not-is_known.branch [
      | then-not-is_known+in_ok-push w ↦
          rw (w.ports-is, w.in_ok-push.ensures.ok) (new_step c.args.uses.now c.loop-used.used-index used c.loop-used.ports (omega arith) c.used-item.is (tested ∙ w.if-not-is_known.true) c.loop-used.invariant)
      | else-not-is_known w ↦
          rw w.ports-is (known_step c.args.uses.now c.loop-used.used-index used c.loop-used.ports (omega arith) c.used-item.is (tested ∙ w.if-not-is_known.false) c.loop-used.invariant)
    ]
