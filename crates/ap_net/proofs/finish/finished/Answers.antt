use Rattle.std.proofs.Common.{◌≡◌, ℕ, ◌<◌, List, length, ap, ◌∙◌, rules, arith}
use Rattle.std.specs.List.{AllByRecursion as Each}
use Rattle.ap_net.specs.declared.net.ModuleNet.{ModuleNet}
use Rattle.ap_net.specs.declared.net.Assign.{Assign}
use Rattle.ap_net.specs.declared.net.Next.{Next}
use Rattle.ap_net.specs.declared.net.Instance.{Instance}
use Rattle.ap_net.specs.declared.cell.Wire.{Wire}
use Rattle.ap_net.specs.Cells.{operands, IsNet}
use Rattle.ap_net.specs.Wiring.{NextFits}
use Rattle.ap_net.specs.Draft.{Draft}
use Rattle.ap_net.proofs.Lists.{All-from}
use Rattle.ap_net.proofs.Wired.{number-IsNet, declared}
use Rattle.ap_net.proofs.Finished.{HasPlaces, length-ports_among, length-wires_among, finished-IsModule, finished-IsFinished}
use Rattle.ap_net.proofs.finish.finished.Goals as goal

pub places_of-requires-clause-ports : goal.places_of-requires-clause-ports
places_of-requires-clause-ports c =
    let long : c.len.result ≡ length c.in_ok-ports.ports.items = search rules in
    long ∙ ap length c.in_ok-ports.ensures ∙ length-ports_among c.args.nets.now

pub places_of-requires-clause-wires : goal.places_of-requires-clause-wires
places_of-requires-clause-wires c =
    let long : c.len-2.result ≡ length c.in_ok-wires.wires.items = search rules in
    long ∙ ap length c.in_ok-wires.ensures ∙ length-wires_among c.args.nets.now

-- a declared net has a place
inside : (nets : List ModuleNet) (places : List ℕ) (w : Wire) → length places ≡ length nets → IsNet nets w → w.number < length places
inside nets places w long net = let lt = number-IsNet nets w net in omega arith

pub assigns_under-requires-clause-results : goal.assigns_under-requires-clause-results
assigns_under-requires-clause-results c =
    let long : length c.as_slice-places.result.now ≡ length c.args.nets.now = ap length c.as_slice-places.ensures.value ∙ c.in_ok-places.ensures.length in
    All-from (λ (a : Assign). IsNet c.args.nets.now a.to) (λ (a : Assign). a.to.number < length c.as_slice-places.result.now) (λ a. inside c.args.nets.now _ a.to long) c.args.assigns.now c.requires.draft.wired.results

pub assigns_under-requires-clause-operands : goal.assigns_under-requires-clause-operands
assigns_under-requires-clause-operands c =
    let long : length c.as_slice-places.result.now ≡ length c.args.nets.now = ap length c.as_slice-places.ensures.value ∙ c.in_ok-places.ensures.length in
    All-from (λ (a : Assign). Each (IsNet c.args.nets.now) (operands a.cell)) (λ (a : Assign). Each (λ (o : Wire). o.number < length c.as_slice-places.result.now) (operands a.cell))
    (λ a. All-from (IsNet c.args.nets.now) (λ (o : Wire). o.number < length c.as_slice-places.result.now) (λ o. inside c.args.nets.now _ o long) (operands a.cell)) c.args.assigns.now (declared _ _ _ c.requires.draft.wired)

pub nexts_under-requires-clause-registers : goal.nexts_under-requires-clause-registers
nexts_under-requires-clause-registers c =
    let long : length c.as_slice-places.result.now ≡ length c.args.nets.now = ap length c.as_slice-places.ensures.value ∙ c.in_ok-places.ensures.length in
    All-from (NextFits c.args.nets.now) (λ (x : Next). x.register.number < length c.as_slice-places.result.now) (λ x h. inside c.args.nets.now _ x.register long h.register) c.args.nexts.now c.requires.draft.wired.registers

pub nexts_under-requires-clause-froms : goal.nexts_under-requires-clause-froms
nexts_under-requires-clause-froms c =
    let long : length c.as_slice-places.result.now ≡ length c.args.nets.now = ap length c.as_slice-places.ensures.value ∙ c.in_ok-places.ensures.length in
    All-from (NextFits c.args.nets.now) (λ (x : Next). x.from.number < length c.as_slice-places.result.now) (λ x h. inside c.args.nets.now _ x.from long h.from) c.args.nexts.now c.requires.draft.wired.registers

pub instances_under-requires : goal.instances_under-requires
instances_under-requires c =
    let long : length c.as_slice-places.result.now ≡ length c.args.nets.now = ap length c.as_slice-places.ensures.value ∙ c.in_ok-places.ensures.length in
    All-from (λ (i : Instance). Each (IsNet c.args.nets.now) i.nets) (λ (i : Instance). Each (λ (w : Wire). w.number < length c.as_slice-places.result.now) i.nets)
    (λ i. All-from (IsNet c.args.nets.now) (λ (w : Wire). w.number < length c.as_slice-places.result.now) (λ w. inside c.args.nets.now _ w long) i.nets) c.args.instances.now c.requires.draft.connected.declared

pub of_parts-requires : goal.of_parts-requires
of_parts-requires c =
    let d : Draft = record { name = c.args.name; nets = c.args.nets.now; assigns = c.args.assigns.now; nexts = c.args.nexts.now; instances = c.args.instances.now } in
    let each : HasPlaces c.args.nets.now c.as_slice-places.result.now = rw c.as_slice-places.ensures.value c.in_ok-places.ensures.each in
    rw (c.in_ok-ports.ensures, c.in_ok-wires.ensures, c.in_ok-regs.ensures, c.in_ok-assigns.ensures, c.in_ok-nexts.ensures, c.in_ok-instances.ensures)
    (finished-IsModule d _ c.as_slice-places.result.now each c.requires.port c.requires.draft c.requires.driven)

pub returns : goal.returns
returns c =
    let d : Draft = record { name = c.args.name; nets = c.args.nets.now; assigns = c.args.assigns.now; nexts = c.args.nexts.now; instances = c.args.instances.now } in
    let each : HasPlaces c.args.nets.now c.as_slice-places.result.now = rw c.as_slice-places.ensures.value c.in_ok-places.ensures.each in
    rw (c.of_parts.ensures, c.in_ok-ports.ensures, c.in_ok-wires.ensures, c.in_ok-regs.ensures, c.in_ok-assigns.ensures, c.in_ok-nexts.ensures, c.in_ok-instances.ensures)
    (finished-IsFinished d _ c.as_slice-places.result.now each c.requires.port c.requires.draft c.requires.driven)
