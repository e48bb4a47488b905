use Rattle.std.proofs.Common.{◌≡◌, ◌<◌, ◌^◌, sym, arith}
use Rattle.ap_net.specs.Draft.{wire_count}
use Rattle.ap_net.proofs.Drafts.{IsNew-made}
use Rattle.ap_net.proofs.builder.Builder.next_fresh.Goals as goal

pub fresh-requires-clause-name : goal.fresh-requires-clause-name
fresh-requires-clause-name c =
    let count : wire_count c.args.self.now.nets ≡ c.self.inside.wires = rw (← c.self.view_is) (sym c.self.invariant.wires) in
    let small : wire_count c.args.self.now.nets < 2 ^ 64 = omega arith in
    c.requires.fresh.free _ (omega arith) small

pub returns-clause-names : goal.returns-clause-names
returns-clause-names c =
    let count : wire_count c.args.self.now.nets ≡ c.self.inside.wires = rw (← c.self.view_is) (sym c.self.invariant.wires) in
    let small : wire_count c.args.self.now.nets < 2 ^ 64 = omega arith in
    rw c.in_ok-wire.ensures.ok (λ other not_numbered h. IsNew-made c.args.self.now.instances c.args.self.now.nets _ other (λ e. not_numbered _ small (sym e)) h)
