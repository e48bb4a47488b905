use Rattle.std.proofs.Common.{◌≡◌, length, rules}
use Rattle.ap_net.specs.Flat.{Flat}
use Rattle.ap_flat.proofs.OpeningSteps.{flat_of, part_more}
use Rattle.ap_flat.proofs.opening.Opening.add_part.Goals as goal

pub returns : goal.returns
returns c =
    let inside = c.self.inside in
    let old : Flat = flat_of inside.parts.items inside.nets.items inside.assigns.items inside.nexts.items inside.joins.items in
    let base : c.len-base.result ≡ length c.self.inside.nets.items = search rules in
    let part : c.len-part.result ≡ length c.self.inside.parts.items = search rules in
    part_more c.args.whole.now c.args.instance.now c.args.self.now old c.len-base.result c.len-part.result _ _ _ _ _ _ _ _ _ _ c.self.view_is base part
    c.in_ok-copy.ensures c.assigns.ensures c.nexts.ensures c.as_slice-drives.ensures c.as_slice-nets.ensures
    c.in_ok-push.ensures.items c.in_ok-put_nets.ensures c.in_ok-put_assigns.ensures c.in_ok-put_nexts.ensures c.in_ok-put_joins.ensures
