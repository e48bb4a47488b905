use Rattle.std.proofs.Common.{◌≡◌, ◌∷◌, [], subst}
use Rattle.std.specs.Prelude.{codes}
use Rattle.ap_net.specs.Outside.{Group, output}
use Rattle.ap_signals.specs.DesignOutside.{reg_group}
use Rattle.ap_front.specs.Ports.{IsPort, shown_name, with_ports}
use Rattle.ap_front.proofs.Porting.{IsPort-Extends, can_back, group_enable, group_value, grown}
use Rattle.ap_front.proofs.ports.reg_ports.Goals as goal

pub group_port-requires-2-clause-can : goal.group_port-requires-2-clause-can
group_port-requires-2-clause-can c =
    let g : Group = reg_group c.args.reg.now in
    let same = c.as_str-storage.ensures.same in
    let ok : c.group_port.new.out ≡ with_ports c.args.out.now (group_enable g ∷ []) = subst (λ n. c.group_port.new.out ≡ with_ports c.args.out.now (output (shown_name n (codes "e")) 1 ∷ [])) same c.in_ok-enable.ensures.ok in
    let can = (can_back (group_enable g ∷ []) (group_value g ∷ []) ok c.requires.can).each.0 in
    rw same can

pub returns-clause-is : goal.returns-clause-is
returns-clause-is c =
    let g : Group = reg_group c.args.reg.now in
    let same = c.as_str-storage.ensures.same in
    let ok2 : c.group_port-2.new.out ≡ with_ports c.group_port.new.out (group_value g ∷ []) = subst (λ n. c.group_port-2.new.out ≡ with_ports c.group_port.new.out (output (shown_name n (codes "v")) c.args.reg.now.width ∷ [])) same c.in_ok-value.ensures.ok in
    let is1 : IsPort c.group_port.new.out (group_enable g) c.in_ok-enable.enable = subst (λ n. IsPort c.group_port.new.out (output (shown_name n (codes "e")) 1) c.in_ok-enable.enable) same c.in_ok-enable.ensures.is in
    let is2 : IsPort c.group_port-2.new.out (group_value g) c.in_ok-value.value = subst (λ n. IsPort c.group_port-2.new.out (output (shown_name n (codes "v")) c.args.reg.now.width) c.in_ok-value.value) same c.in_ok-value.ensures.is in
    record { enable = IsPort-Extends (grown (group_value g ∷ []) ok2) is1; index = tt; value = is2 }
