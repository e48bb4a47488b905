use Rattle.ap_slow.proofs.Lates.{late_more, late_none}
use Rattle.ap_slow.proofs.place.late_inputs.Goals as goal

pub returns : goal.returns
returns c =
    let n = late_none c.args.out.now c.requires.fresh in
    let s = c.in_ok-sel.ensures in
    let one = late_more _ _ _ c.in_ok-sel.sel _ _ _ n s.ok s.wire s.late s.stay s.fresh s.names in
    let a = c.in_ok-a.ensures in
    let two = late_more _ _ _ c.in_ok-a.a _ _ _ one a.ok a.wire a.late a.stay a.fresh a.names in
    let b = c.in_ok-b.ensures in
    let three = late_more _ _ _ c.in_ok-b.b _ _ _ two b.ok b.wire b.late b.stay b.fresh b.names in
    let go = c.in_ok-go.ensures in
    let four = late_more _ _ _ c.in_ok-go.go _ _ _ three go.ok go.wire go.late go.stay go.fresh go.names in
    let adv = c.in_ok-adv.ensures in
    late_more _ _ _ c.in_ok-adv.adv _ _ _ four adv.ok adv.wire adv.late adv.stay adv.fresh adv.names
