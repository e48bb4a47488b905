use Rattle.std.proofs.Common.{◌≡◌, ◌∙◌, ap, refl}
use Rattle.std.proofs.lemmas.Result.{on_ok_weaker}
use Rattle.ap_net.specs.Names.{numbered}
use Rattle.ap_net.specs.Draft.{wire_count}
use Rattle.ap_net.proofs.builder.Builder.fresh.Goals as goal

pub returns-clause-fresh : goal.returns-clause-fresh
returns-clause-fresh c =
    let count : c.self.inside.wires ≡ wire_count c.args.self.now.nets = rw (← c.self.view_is) c.self.invariant.wires in
    on_ok_weaker c.declare.result (λ more. more (c.in_ok-name.ensures.same ∙ ap numbered count) refl) c.declare.ensures.numbered
