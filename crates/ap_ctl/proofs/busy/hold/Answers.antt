use Rattle.std.proofs.Common.{◌∙◌, ap}
use Rattle.std.specs.List.{list_any}
use Rattle.ap_model.specs.Stalls.{is_held_stage}
use Rattle.ap_net.specs.declared.cell.Wire.{Wire}
use Rattle.ap_net.specs.Runs.{bit}
use Rattle.ap_net.specs.Ready.{numbers}
use Rattle.ap_net.proofs.Laws.{meant}
use Rattle.ap_ctl.specs.Building.{is_on}
use Rattle.ap_ctl.proofs.Built.{Each-map, Gives-joined, settled_builds}
use Rattle.ap_ctl.proofs.busy.hold.Goals as goal

pub any_of-requires : goal.any_of-requires
any_of-requires c = record { fresh = c.in_ok-nets.ensures.gives.builds.fresh; nets = rw c.as_slice.ensures c.in_ok-nets.ensures.nets }

pub returns-clause-shows : goal.returns-clause-shows
unfolding is_held_stage
returns-clause-shows c = λ stage.
    let y = c.in_ok-held.ensures in
    meant (λ r s e look sees. e ∙ ap bit (ap (list_any (is_on r)) c.as_slice.ensures ∙ c.in_ok-nets.ensures.tells.holds r (settled_builds y.gives.builds r s) look sees)) y.tells.carries

pub returns-clause-gives : goal.returns-clause-gives
returns-clause-gives c =
    let p = c.in_ok-nets.ensures.gives in
    Gives-joined _ (numbers c.as_slice.result.now) c.args.out.now c.busy_nets.new.out c.any_of.new.out c.in_ok-held.held p.builds c.in_ok-held.ensures.gives
    (rw c.as_slice.ensures (Each-map _ (λ (w : Wire). w.number) c.in_ok-nets.nets p.results))
