use Rattle.std.proofs.Common.{◌∙◌, arith, subst, sym}
use Rattle.std.proofs.lemmas.Option.{slice_get-get_or}
use Rattle.ap_merge.specs.Gathered.{AreGathered}
use Rattle.ap_merge.proofs.Gathered.{choice_made, choice_not_made, entries_fit, next_port}
use Rattle.ap_merge.proofs.gather.add_choices.Goals as goal
use Rattle.ap_merge.proofs.gather.add_choices.Goals.{then-not-is_empty+in_ok-select+in_ok-push, else-not-is_empty}

pub overflow_cast-len : goal.overflow_cast-len
overflow_cast-len c = let fit = entries_fit c.args.uses.now _ c.loop-operand.operand c.in_ok-entries.entries c.len.result c.requires.few c.in_ok-entries.ensures c.len.ensures in omega arith

pub loop-operand-preserved : goal.loop-operand-preserved
loop-operand-preserved c = elim c.if-not-is_empty.branch [
  | then-not-is_empty+in_ok-select+in_ok-push w ↦
      rw (w.choices-is, w.in_ok-push.ensures.ok)
      (choice_made c.args.uses.now c.args.ports.now c.args.place c.loop-operand.operand c.loop-operand.choices _ c.in_ok-entries.entries w.in_ok-select.select w.len.result c.requires.ports (slice_get-get_or c.args.ports.now c.args.place _ c.requires.there)
      c.in_ok-entries.ensures (sym c.is_empty.ensures ∙ w.if-not-is_empty.true) w.len.ensures w.in_ok-select.ensures.selects w.in_ok-select.ensures.over w.in_ok-select.ensures.balanced c.loop-operand.invariant)
  | else-not-is_empty w ↦
      rw w.choices-is
      (choice_not_made c.args.uses.now c.args.ports.now c.args.place c.loop-operand.operand c.loop-operand.choices _ c.in_ok-entries.entries (slice_get-get_or c.args.ports.now c.args.place _ c.requires.there) c.in_ok-entries.ensures
      (sym c.is_empty.ensures ∙ w.if-not-is_empty.false) c.loop-operand.invariant)
]

pub returns : goal.returns
returns c = next_port c.args.uses.now c.args.ports.now c.args.place c.loop-operand.choices c.requires.few (subst (λ n. AreGathered c.args.uses.now c.args.ports.now c.args.place n c.loop-operand.choices) (omega arith) c.loop-operand.invariant)
