use Rattle.std.proofs.Common.{◌≡◌, length, refl, sym, ap, ◌∙◌}
use Rattle.std.specs.Prelude.{map}
use Rattle.std.proofs.lemmas.List.{length-map}
use Rattle.ap_net.specs.declared.cell.Wire.{Wire}
use Rattle.ap_net.specs.declared.net.Port.{Port}
use Rattle.ap_net.specs.Modules.{outputs}
use Rattle.ap_net.proofs.Connected.{IsConnected-instance}
use Rattle.ap_net.proofs.builder.Builder.instance.Goals as goal

pub invariant_of-self-2 : goal.invariant_of-self-2
invariant_of-self-2 c =
    let name = rw (← c.self.view_is) at c.requires.name in
    let nets = rw (← c.self.view_is) at c.requires.nets in
    let free = rw (← c.self.view_is) at c.requires.free in
    let undriven = rw (← c.self.view_is) at c.requires.undriven in
    let unjoined = rw (← c.self.view_is) at c.requires.unjoined in
    let top = rw (← c.self.view_is) at c.requires.top in
    let paired : length (outputs c.args.whole.now) ≡ length c.args.nets.now =
    (let a : length (outputs c.args.whole.now) ≡ length c.args.whole.now.ports = simp length-map in a)
    ∙ (let b : length (map (λ (p : Port). p.width) c.args.whole.now.ports) ≡ length c.args.whole.now.ports = simp length-map in sym b)
    ∙ sym (ap length c.requires.widths)
    ∙ (let d : length (map (λ (w : Wire). w.width) c.args.nets.now) ≡ length c.args.nets.now = simp length-map in d) in
    rw (c.in_ok-push.ensures.items, c.in_ok-name.ensures.same, c.in_ok-nets.ensures, c.in_ok-drives.ensures, c.ports.ensures) (record {
      name = c.self.invariant.name;
      wired = c.self.invariant.wired;
      connected = IsConnected-instance _ _ _ _ c.requires.is_name name nets paired free undriven unjoined c.requires.apart c.self.invariant.connected;
      alone = λ other. absurd (other top);
      wires = c.self.invariant.wires;
    })

pub returns-clause-ok : goal.returns-clause-ok
returns-clause-ok c = rw (c.in_ok-push.ensures.items, c.in_ok-name.ensures.same, c.in_ok-module_name.ensures, c.name.ensures, c.in_ok-nets.ensures, c.in_ok-drives.ensures, c.ports.ensures, ← c.self.view_is) refl
