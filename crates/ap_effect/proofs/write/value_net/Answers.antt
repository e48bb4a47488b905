use Rattle.std.proofs.Common.{refl, map, ap, subst, ◌∙◌}
use Rattle.ap_net.proofs.Laws.{meant}
use Rattle.ap_merge.specs.Selects.{depth}
use Rattle.ap_stage.specs.Offers.{IsSelected, nets_of, numbers_of}
use Rattle.ap_stage.specs.Trees.{StandsOver}
use Rattle.ap_net.specs.Pending.{Yields}
use Rattle.ap_effect.specs.Writers.{offer_value}
use Rattle.ap_effect.proofs.Offered.{value_of, value_nets, values_are, values_fit, over_offers, selected_of}
use Rattle.ap_effect.proofs.Reading.{value_among, offers_read}
use Rattle.ap_effect.proofs.write.value_net.Goals as goal

pub chosen-requires-clause-offers : goal.chosen-requires-clause-offers
chosen-requires-clause-offers c = rw (c.as_slice.ensures, c.in_ok-offers.ensures) (values_fit _ _ c.args.writers.now c.requires.writers)

pub chosen-requires-clause-over : goal.chosen-requires-clause-over
chosen-requires-clause-over c = rw (c.as_slice.ensures, c.in_ok-offers.ensures) (over_offers value_of _ c.args.writers.now c.args.select.now (values_are c.args.writers.now) c.requires.over)

pub returns-clause-net : goal.returns-clause-net
returns-clause-net c =
    meant (λ r s h place w at only. selected_of value_of r (map offer_value c.args.writers.now) c.args.writers.now c.args.select.now place w w.value _ (values_are c.args.writers.now) c.requires.over at refl only (subst (λ l. IsSelected l c.args.select.now r (r.read c.in_ok-value.value.number)) (c.as_slice.ensures ∙ c.in_ok-offers.ensures) h)) c.in_ok-value.ensures.carries

pub returns-clause-yields : goal.returns-clause-yields
returns-clause-yields c =
    offers_read value_of value_among _ c.args.writers.now _ _ _ (values_are c.args.writers.now) (subst (λ l. Yields (numbers_of l) c.args.out.now c.chosen.new.out c.in_ok-value.value) (c.as_slice.ensures ∙ c.in_ok-offers.ensures) c.in_ok-value.ensures.reads)

pub returns-clause-shallow : goal.returns-clause-shallow
returns-clause-shallow c =
    subst (λ l. StandsOver (depth c.args.select.now) l c.args.out.now c.chosen.new.out c.in_ok-value.value.number) (ap nets_of (c.as_slice.ensures ∙ c.in_ok-offers.ensures) ∙ value_nets c.args.writers.now) c.in_ok-value.ensures.shallow
