use Rattle.std.proofs.Common.{◌<◌, ◌+◌, length, length-append, refl, ap, ◌∙◌, arith}
use Rattle.std.proofs.lemmas.Option.{slice_get_within}
use Rattle.ap_net.specs.declared.net.ModuleNet.{ModuleNet}
use Rattle.ap_net.specs.declared.finish.Free.{Free}
use Rattle.ap_net.specs.Draft.{is_wire, wire_count}
use Rattle.ap_net.specs.Places.{is_port, is_register, port_count, place_by}
use Rattle.ap_net.proofs.Steps.{first_after, free_after, each_more}
use Rattle.ap_net.proofs.finish.places_of.Goals as goal

pub loop-net-preserved : goal.loop-net-preserved
loop-net-preserved c =
    let nets = c.args.nets.now in
    let i = c.loop-net.net-index in
    let net = c.net-item.result in
    let ports = port_count c.args.nets.now in
    let inv = c.loop-net.invariant in
    record {
      port = first_after is_port nets i net _ _ _ c.loop-net-test.true c.net-item.is refl inv.port (ap (λ (f : Free). f.port) c.after-free.ensures);
      wire = free_after is_wire nets i net _ _ _ ports c.loop-net-test.true c.net-item.is refl inv.wire (ap (λ (f : Free). f.wire) c.after-free.ensures);
      register = free_after is_register nets i net _ _ _ (ports + wire_count nets) c.loop-net-test.true c.net-item.is refl inv.register (ap (λ (f : Free). f.register) c.after-free.ensures);
      length = rw c.in_ok-push.ensures.items (length-append c.loop-net.places.items _ ∙ ap (λ n. n + 1) inv.length);
      each = rw c.in_ok-push.ensures.items (each_more (λ (x : ModuleNet) n. place_by x.role nets n) nets c.loop-net.places.items i _ net inv.length c.net-item.is c.loop-net-test.true inv.each (c.number.ensures ∙ rw (inv.port, inv.wire, inv.register) refl));
    }

pub returns-clause-each : goal.returns-clause-each
returns-clause-each c = λ n net at. let within : n < length c.args.nets.now = slice_get_within c.args.nets.now n net at in c.loop-net.invariant.each n net (omega arith) at
