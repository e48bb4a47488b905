use Rattle.std.proofs.Common.{ℕ, ◌++◌, ◌∷◌, [], List, length, take, sym, ap, ◌∙◌}
use Rattle.ap_net.specs.declared.net.ModuleNet.{ModuleNet}
use Rattle.ap_net.specs.declared.net.Role.TheVariants as role
use Rattle.ap_net.specs.Names.{numbered}
use Rattle.ap_net.specs.Draft.{Draft, wire_count}
use Rattle.ap_net.specs.Placing.{output_widths, wires_from, fresh_nets}
use Rattle.ap_net.proofs.Placing.{widths_skip, nets_next, wires_next}
use Rattle.ap_net.proofs.builder.Builder.fresh_outputs.Goals as goal

pub loop-port-preserved-then-not-port : goal.loop-port-preserved-then-not-port
loop-port-preserved-then-not-port c =
    let d : Draft = c.args.self.now in
    let skip = widths_skip c.args.ports.now c.loop-port.port-index c.port-item.result c.loop-port-test.true c.port-item.is c.if-not-port.true in
    record {
      same = c.loop-port.invariant.same ∙ ap (λ ws. record d { nets = d.nets ++ fresh_nets (wire_count d.nets) ws }) (sym skip);
      wires = c.loop-port.invariant.wires ∙ ap (wires_from (length d.nets)) (sym skip);
      fresh = c.loop-port.invariant.fresh;
      names = c.loop-port.invariant.names;
    }

pub loop-port-preserved : goal.loop-port-preserved
loop-port-preserved c =
    let d : Draft = c.args.self.now in
    let i : ℕ = c.loop-port.port-index in
    let ws : List ℕ = output_widths (take i c.args.ports.now) in
    let same = c.loop-port.invariant.same in
    let next = nets_next d.nets c.args.ports.now i c.port-item.result c.loop-port-test.true c.port-item.is c.if-not-port.false in
    let next' = wires_next d.nets c.args.ports.now i c.port-item.result c.loop-port-test.true c.port-item.is c.if-not-port.false in
    let width : ℕ = (c.port-item.result).width in
    record {
      same = c.in_ok-next_fresh.ensures.ok
          ∙ ap (λ (x : Draft). record x { nets = x.nets ++ record { name = numbered (wire_count x.nets); width = width; role = role.Plain } ∷ [] }) same
          ∙ ap (λ (ns : List ModuleNet). record d { nets = ns }) next;
      wires = c.in_ok-push.ensures.ok ∙ (λ j. c.loop-port.invariant.wires j ++ (c.in_ok-next_fresh.ensures.wire ∙ ap (λ (x : Draft). record { number = length x.nets; width = width }) same) j ∷ []) ∙ next';
      fresh = c.in_ok-next_fresh.ensures.fresh;
      names = λ other not_numbered h. c.in_ok-next_fresh.ensures.names other not_numbered (c.loop-port.invariant.names other not_numbered h);
    }
