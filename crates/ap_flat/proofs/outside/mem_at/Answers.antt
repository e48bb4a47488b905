use Rattle.std.proofs.Common.{get_or, ◌≡◌, [], ◌∷◌, sym, ap, subst, ◌∙◌, arith}
use Rattle.std.proofs.lemmas.Bool.{both_ways}
use Rattle.ap_image.specs.declared.shape.MemShape.{MemShape}
use Rattle.ap_net.specs.declared.net.Port.{Port}
use Rattle.ap_net.specs.Outside.{mem_ports}
use Rattle.ap_flat.specs.Ports.{BeginsWith}
use Rattle.ap_flat.proofs.PortPieces.{mem_only}
use Rattle.ap_flat.proofs.outside.mem_at.Goals as goal

pub returns-then-not-branch-clause-none : goal.returns-then-not-branch-clause-none
returns-then-not-branch-clause-none c = λ m is b.
    let some = rw c.in-Some.is at c.in_ok-name.ensures.some in
    let same : m ≡ record { name = c.in-Some.name; address = c.index-ports-0.result.width; width = c.index-ports-1.result.width } = mem_only c.args.ports.now c.index-ports-0.result c.index-ports-0-2.result c.index-ports-1.result c.in-Some.name m c.index-ports-0.is c.index-ports-0-2.is c.index-ports-1.is (omega arith) (ap (λ (x : Port). x.name) c.index-ports-0-2.is ∙ sym c.as_str.ensures ∙ sym c.as_bytes.ensures.value ∙ some.1) b in
    let read : m ≡ record { name = c.in-Some.name; address = (get_or c.args.ports.now 0 c.index-ports-0.result).width; width = (get_or c.args.ports.now 1 c.index-ports-1.result).width } = same ∙ (λ i. record { name = c.in-Some.name; address = (c.index-ports-0.is i).width; width = (c.index-ports-1.is i).width }) in
    both_ways c.in_ok-are_mem_ports.field-0 c.if-not-branch.true (c.in_ok-are_mem_ports.ensures.1 (subst (λ (x : MemShape). BeginsWith c.args.ports.now (mem_ports (x ∷ []))) read b))
