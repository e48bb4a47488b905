use Rattle.std.proofs.Common.{◌≡◌, sym, subst}
use Rattle.ap_net.specs.declared.net.ModuleNet.{ModuleNet}
use Rattle.ap_net.specs.declared.net.Role.TheVariants as role
use Rattle.ap_net.specs.Draft.{Draft, IsDraft, with_fresh, next_wire, wire_count}
use Rattle.ap_net.specs.Late.{IsLate, StayLate}
use Rattle.ap_net.specs.Names.{numbered}
use Rattle.ap_net.proofs.LateSteps.{IsLate-net, StayLate-net}
use Rattle.ap_net.proofs.builder.Builder.late.Goals as goal

pub returns-clause-late : goal.returns-clause-late
returns-clause-late c =
    let d : Draft = c.args.self.now in
    let kept : IsDraft d c.self.inside.wires = rw (← c.self.view_is) c.self.invariant in
    let y = c.in_ok-wire.ensures in
    let net : ModuleNet = record { name = numbered (wire_count d.nets); width = c.args.width; role = role.Plain } in
    rw (y.ok, y.wire) (IsLate-net d net kept.wired.results kept.connected.declared c.requires.low c.requires.high (λ s. s))

pub returns-clause-stay : goal.returns-clause-stay
returns-clause-stay c =
    let d : Draft = c.args.self.now in
    let net : ModuleNet = record { name = numbered (wire_count d.nets); width = c.args.width; role = role.Plain } in
    rw c.in_ok-wire.ensures.ok (StayLate-net d net)
