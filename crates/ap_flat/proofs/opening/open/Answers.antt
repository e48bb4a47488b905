use Rattle.std.proofs.Common.{◌-◌, length, take, refl, sym, ap, subst, ◌∙◌}
use Rattle.ap_net.specs.Modules.{IsNetlist}
use Rattle.ap_net.specs.Flat.{opened}
use Rattle.ap_flat.proofs.TopPorts.{whole_distinct, whole_opened, whole_within}
use Rattle.ap_flat.proofs.opening.open.Goals as goal

pub open_over-requires-clause-distinct : goal.open_over-requires-clause-distinct
open_over-requires-clause-distinct c =
    let net = c.modules-modules.result.now in
    whole_distinct net (subst IsNetlist (sym c.modules-modules.ensures) c.rules.ensures) c.index-modules-last.result c.index-modules-last.is (take (length net - 1) net) refl

pub open_over-requires-clause-within : goal.open_over-requires-clause-within
open_over-requires-clause-within c =
    let net = c.modules-modules.result.now in
    whole_within net (subst IsNetlist (sym c.modules-modules.ensures) c.rules.ensures) c.index-modules-last.result c.index-modules-last.is (take (length net - 1) net) refl

pub returns : goal.returns
returns c =
    let net = c.modules-modules.result.now in
    c.in_ok-opening.ensures
    ∙ whole_opened net (subst IsNetlist (sym c.modules-modules.ensures) c.rules.ensures) c.index-modules-last.result c.index-modules-last.is (take (length net - 1) net) refl
    ∙ ap opened c.modules-modules.ensures
