use Rattle.std.proofs.Common.{◌≡◌, ◌∷◌, [], ◌++◌, List, ℕ, sym, ap, subst, ◌∙◌, append_assoc}
use Rattle.std.specs.Prelude.{codes}
use Rattle.std.specs.Fmt.{decimal}
use Rattle.ap_net.specs.Outside.{Group, output}
use Rattle.ap_net.proofs.Laws.{Extends-trans}
use Rattle.ap_desc.specs.Designs.{index_bits}
use Rattle.ap_signals.specs.DesignOutside.{file_group}
use Rattle.ap_front.specs.Ports.{IsPort, shown_name, with_ports}
use Rattle.ap_front.proofs.Porting.{IsPort-Extends, can_back, group_enable, group_index, group_value, grown}
use Rattle.ap_front.proofs.ports.cell_ports.Goals as goal

pub group_port-requires-clause-can : goal.group_port-requires-clause-can
group_port-requires-clause-can c =
    let name : List ℕ = c.args.file.now.name ++ codes "_" ++ decimal c.args.number in
    let same : c.deref.result.now ≡ name = c.deref.ensures ∙ c.in_ok-storage.ensures.ok ∙ ap (λ (n : List ℕ). n ++ 95 ∷ decimal c.args.number) c.as_str.ensures.same ∙ sym (append_assoc c.args.file.now.name (95 ∷ []) (decimal c.args.number)) in
    rw same c.requires.can.each.0

pub group_port-requires-2-clause-can : goal.group_port-requires-2-clause-can
group_port-requires-2-clause-can c =
    let g : Group = file_group c.args.number c.args.file.now in
    let name : List ℕ = c.args.file.now.name ++ codes "_" ++ decimal c.args.number in
    let text = c.in_ok-storage.ensures.ok ∙ ap (λ (n : List ℕ). n ++ 95 ∷ decimal c.args.number) c.as_str.ensures.same ∙ sym (append_assoc c.args.file.now.name (95 ∷ []) (decimal c.args.number)) in
    let same : c.deref.result.now ≡ name = c.deref.ensures ∙ text in
    let same2 : c.deref-2.result.now ≡ name = c.deref-2.ensures ∙ text in
    let ok : c.group_port.new.out ≡ with_ports c.args.out.now (group_enable g ∷ []) = subst (λ n. c.group_port.new.out ≡ with_ports c.args.out.now (output (shown_name n (codes "e")) 1 ∷ [])) same c.in_ok-enable.ensures.ok in
    rw (same2, c.index_width.ensures.bits) (can_back (group_enable g ∷ []) (group_index g (index_bits c.args.file.now) ∷ group_value g ∷ []) ok c.requires.can).each.0

pub group_port-requires-3-clause-can : goal.group_port-requires-3-clause-can
group_port-requires-3-clause-can c =
    let g : Group = file_group c.args.number c.args.file.now in
    let bits : ℕ = index_bits c.args.file.now in
    let name : List ℕ = c.args.file.now.name ++ codes "_" ++ decimal c.args.number in
    let text = c.in_ok-storage.ensures.ok ∙ ap (λ (n : List ℕ). n ++ 95 ∷ decimal c.args.number) c.as_str.ensures.same ∙ sym (append_assoc c.args.file.now.name (95 ∷ []) (decimal c.args.number)) in
    let same : c.deref.result.now ≡ name = c.deref.ensures ∙ text in
    let same2 : c.deref-2.result.now ≡ name = c.deref-2.ensures ∙ text in
    let same3 : c.deref-3.result.now ≡ name = c.deref-3.ensures ∙ text in
    let ok : c.group_port.new.out ≡ with_ports c.args.out.now (group_enable g ∷ []) = subst (λ n. c.group_port.new.out ≡ with_ports c.args.out.now (output (shown_name n (codes "e")) 1 ∷ [])) same c.in_ok-enable.ensures.ok in
    let ok2 : c.group_port-2.new.out ≡ with_ports c.group_port.new.out (group_index g bits ∷ []) = subst (λ n. c.group_port-2.new.out ≡ with_ports c.group_port.new.out (output (shown_name n (codes "x")) bits ∷ [])) same2
    (subst (λ w. c.group_port-2.new.out ≡ with_ports c.group_port.new.out (output (shown_name c.deref-2.result.now (codes "x")) w ∷ [])) c.index_width.ensures.bits c.in_ok-index.ensures.ok) in
    let one = can_back (group_enable g ∷ []) (group_index g bits ∷ group_value g ∷ []) ok c.requires.can in
    rw same3 (can_back (group_index g bits ∷ []) (group_value g ∷ []) ok2 one).each.0

pub returns-clause-is : goal.returns-clause-is
returns-clause-is c =
    let g : Group = file_group c.args.number c.args.file.now in
    let bits : ℕ = index_bits c.args.file.now in
    let name : List ℕ = c.args.file.now.name ++ codes "_" ++ decimal c.args.number in
    let text = c.in_ok-storage.ensures.ok ∙ ap (λ (n : List ℕ). n ++ 95 ∷ decimal c.args.number) c.as_str.ensures.same ∙ sym (append_assoc c.args.file.now.name (95 ∷ []) (decimal c.args.number)) in
    let same : c.deref.result.now ≡ name = c.deref.ensures ∙ text in
    let same2 : c.deref-2.result.now ≡ name = c.deref-2.ensures ∙ text in
    let same3 : c.deref-3.result.now ≡ name = c.deref-3.ensures ∙ text in
    let is1 : IsPort c.group_port.new.out (group_enable g) c.in_ok-enable.enable = subst (λ n. IsPort c.group_port.new.out (output (shown_name n (codes "e")) 1) c.in_ok-enable.enable) same c.in_ok-enable.ensures.is in
    let is2 : IsPort c.group_port-2.new.out (group_index g bits) c.in_ok-index.index = subst (λ n. IsPort c.group_port-2.new.out (output (shown_name n (codes "x")) bits) c.in_ok-index.index) same2
    (subst (λ w. IsPort c.group_port-2.new.out (output (shown_name c.deref-2.result.now (codes "x")) w) c.in_ok-index.index) c.index_width.ensures.bits c.in_ok-index.ensures.is) in
    let is3 : IsPort c.group_port-3.new.out (group_value g) c.in_ok-value.value = subst (λ n. IsPort c.group_port-3.new.out (output (shown_name n (codes "v")) c.args.file.now.width) c.in_ok-value.value) same3 c.in_ok-value.ensures.is in
    let ok2 : c.group_port-2.new.out ≡ with_ports c.group_port.new.out (group_index g bits ∷ []) = subst (λ n. c.group_port-2.new.out ≡ with_ports c.group_port.new.out (output (shown_name n (codes "x")) bits ∷ [])) same2
    (subst (λ w. c.group_port-2.new.out ≡ with_ports c.group_port.new.out (output (shown_name c.deref-2.result.now (codes "x")) w ∷ [])) c.index_width.ensures.bits c.in_ok-index.ensures.ok) in
    let ok3 : c.group_port-3.new.out ≡ with_ports c.group_port-2.new.out (group_value g ∷ []) = subst (λ n. c.group_port-3.new.out ≡ with_ports c.group_port-2.new.out (output (shown_name n (codes "v")) c.args.file.now.width ∷ [])) same3 c.in_ok-value.ensures.ok in
    let e3 = grown (group_value g ∷ []) ok3 in
    let e2 = grown (group_index g bits ∷ []) ok2 in
    record { enable = IsPort-Extends (Extends-trans _ _ _ e2 e3) is1; index = IsPort-Extends e3 is2; value = is3 }
