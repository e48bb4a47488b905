use Rattle.std.proofs.Common.{filter_map, ap, subst, ◌∙◌}
use Rattle.ap_net.proofs.Laws.{meant}
use Rattle.ap_merge.specs.Selects.{depth}
use Rattle.ap_stage.specs.Offers.{IsSelected, nets_of, numbers_of}
use Rattle.ap_stage.specs.Trees.{StandsOver}
use Rattle.ap_net.specs.Pending.{Yields}
use Rattle.ap_effect.specs.Writers.{offer_index}
use Rattle.ap_effect.proofs.Offered.{index_of, index_nets, indices_are, indices_fit, over_offers, selected_of}
use Rattle.ap_effect.proofs.Reading.{index_among, offers_read}
use Rattle.ap_effect.proofs.write.chosen_index.Goals as goal

pub chosen-requires-clause-offers : goal.chosen-requires-clause-offers
chosen-requires-clause-offers c = rw (c.as_slice.ensures, c.in_ok-offers.ensures) (indices_fit _ _ c.args.writers.now c.requires.writers)

pub chosen-requires-clause-over : goal.chosen-requires-clause-over
chosen-requires-clause-over c = rw (c.as_slice.ensures, c.in_ok-offers.ensures) (over_offers index_of _ c.args.writers.now c.args.select.now (indices_are _ _ c.args.writers.now c.requires.writers) c.requires.over)

pub returns-clause-net : goal.returns-clause-net
returns-clause-net c =
    meant (λ r s h place w i at is only. selected_of index_of r (filter_map offer_index c.args.writers.now) c.args.writers.now c.args.select.now place w i _ (indices_are _ _ c.args.writers.now c.requires.writers) c.requires.over at is only (subst (λ l. IsSelected l c.args.select.now r (r.read c.in_ok-index.index.number)) (c.as_slice.ensures ∙ c.in_ok-offers.ensures) h)) c.in_ok-index.ensures.carries

pub returns-clause-yields : goal.returns-clause-yields
returns-clause-yields c =
    offers_read index_of index_among _ c.args.writers.now _ _ _ (indices_are _ _ c.args.writers.now c.requires.writers) (subst (λ l. Yields (numbers_of l) c.args.out.now c.chosen.new.out c.in_ok-index.index) (c.as_slice.ensures ∙ c.in_ok-offers.ensures) c.in_ok-index.ensures.reads)

pub returns-clause-shallow : goal.returns-clause-shallow
returns-clause-shallow c =
    subst (λ l. StandsOver (depth c.args.select.now) l c.args.out.now c.chosen.new.out c.in_ok-index.index.number) (ap nets_of (c.as_slice.ensures ∙ c.in_ok-offers.ensures) ∙ index_nets c.args.writers.now) c.in_ok-index.ensures.shallow
