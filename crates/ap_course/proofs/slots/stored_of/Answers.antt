use Rattle.std.proofs.Common.{◌++◌, List, option_to_list, filter_map, sym, ap, ◌∙◌}
use Rattle.std.specs.List.{range_with_len}
use Rattle.ap_stage.specs.declared.slot.Stored.{Stored}
use Rattle.ap_course.specs.Homes.{homes_in, stored_at}
use Rattle.ap_course.proofs.Few.{given_more}
use Rattle.ap_course.proofs.slots.stored_of.Goals as goal

pub loop-local-preserved : goal.loop-local-preserved
loop-local-preserved c =
    let f = stored_at (homes_in c.args.homes.now c.args.number) c.args.slots.now in
    let own = c.deref.ensures.value ∙ c.in_ok-own.ensures in
    let is = c.stored_at-one.ensures ∙ ap (λ hs. stored_at hs c.args.slots.now c.loop-local.local) own in
    c.in_ok-add.ensures ∙ ap (λ (ys : List Stored). ys ++ option_to_list c.stored_at-one.result) c.loop-local.invariant
    ∙ ap (λ o. filter_map f (range_with_len 0 c.loop-local.local) ++ option_to_list o) is
    ∙ sym (given_more f c.loop-local.local)
