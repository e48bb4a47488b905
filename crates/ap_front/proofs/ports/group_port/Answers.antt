use Rattle.std.proofs.Common.{sym, ap, subst, ◌∙◌, ◌∷◌, [], List, ℕ, append_assoc}
use Rattle.ap_net.specs.Outside.{output}
use Rattle.ap_front.specs.Ports.{CanPort}
use Rattle.ap_front.proofs.ports.group_port.Goals as goal

pub output_port-requires-clause-can : goal.output_port-requires-clause-can
output_port-requires-clause-can c = subst (λ n. CanPort c.args.out.now (output n c.args.width)) (sym (c.as_bytes.ensures.value ∙ c.in_ok-name.ensures.ok ∙ ap (λ (l : List ℕ). 119 ∷ 95 ∷ l) (sym (append_assoc c.args.storage.now (95 ∷ []) c.args.what.now)))) c.requires.can
