use Rattle.std.proofs.Common.{◌<◌, length, ap, ◌∙◌, rules}
use Rattle.std.specs.Prelude.{slice_index}
use Rattle.ap_net.proofs.Laws.{Makes-trans, laws}
use Rattle.ap_comb.proofs.AluResults.{result_at}
use Rattle.ap_comb.proofs.alu.chosen.Goals as goal

pub returns-clause-value : goal.returns-clause-value
returns-clause-value c = λ read s.
    let y = rw c.deref.ensures.value at (c.in_ok-result.ensures.value read s) in
    let made = c.in_ok-made.ensures.value read y.0 in (
      made.0,
      λ lt.
          let there : read c.args.inputs.sel.number < length c.in_ok-made.made.items = rw c.in_ok-made.ensures.long lt in
          y.1 there ∙ ap (λ l. slice_index l (read c.args.inputs.sel.number)) made.1 ∙ result_at c.args.inputs.a.width (read c.args.inputs.sel.number) (read c.args.inputs.a.number) (read c.args.inputs.b.number) lt,
    )

pub returns-clause-makes : goal.returns-clause-makes
returns-clause-makes c = Makes-trans _ _ _ c.in_ok-made.ensures.makes c.in_ok-result.ensures.makes

pub select-requires-clause-sel : goal.select-requires-clause-sel
select-requires-clause-sel c = let made' = c.in_ok-made.ensures in search (rules, laws)
