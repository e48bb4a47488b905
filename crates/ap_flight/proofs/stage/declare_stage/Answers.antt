use Rattle.std.proofs.Common.{◌<◌, ℕ, List, sym, ap, subst, ◌∙◌}
use Rattle.ap_flight.specs.Planned.{KeepsOther, stage_plan}
use Rattle.ap_flight.proofs.PlanNames.{are_plans, plan_apart}
use Rattle.ap_flight.proofs.SlotWidths.{AreFit, slots_fit}
use Rattle.ap_flight.proofs.Within.{address_fits, few_stages, word_fits}
use Rattle.ap_flight.proofs.stage.declare_stage.Goals as goal

pub declare-requires : goal.declare-requires
declare-requires c =
    let design = c.args.design.now in
    let stage : ℕ = c.args.stage in
    let widths : List ℕ = c.args.slots.now.widths in
    let fit : AreFit widths = subst AreFit (sym c.requires.slots.widths) (slots_fit design c.requires.clean.sound stage) in
    let low : stage < 10 = few_stages design stage c.requires.clean c.requires.stage in
    let few = fit.few in
    let is = c.in_ok-plan.ensures ∙ ap (stage_plan design stage) c.as_slice.ensures in
    rw (c.as_slice-2.ensures, is) (record {
      plan = are_plans design stage widths low (word_fits design c.requires.clean) (address_fits design c.requires.clean) few fit.each;
      new = record { each = c.requires.new; apart = plan_apart design stage widths low few };
      fresh = c.requires.fresh;
    })

pub returns-clause-others : goal.returns-clause-others
returns-clause-others c =
    let is = c.as_slice-2.ensures ∙ c.in_ok-plan.ensures ∙ ap (stage_plan c.args.design.now c.args.stage) c.as_slice.ensures in
    subst (λ l. KeepsOther l c.args.out.now c.declare.new.out) is c.in_ok-made.ensures.others
