use Rattle.std.proofs.Common.{◌≡◌, ◌+◌, [], ◌∷◌, length, refl, sym, ap, subst, ◌∙◌, length-append}
use Rattle.ap_net.specs.Draft.{Draft, Extends, RegistersBelow}
use Rattle.ap_net.specs.declared.cell.Wire.{Wire}
use Rattle.ap_net.specs.Ready.{ReadyAfter}
use Rattle.ap_net.specs.Late.{IsLate, Drives}
use Rattle.ap_net.proofs.Laws.{next_extends}
use Rattle.ap_unit.specs.declared.slow.SlowOutputs.{SlowOutputs}
use Rattle.circuit_tests.specs.Tiny.{tiny_base, tiny_by, wire}
use Rattle.circuit_tests.proofs.Smallest.{tiny_asks, late_ra, late_a, late_adv, tiny_registers, tiny_ready}
use Rattle.circuit_tests.proofs.tiny.circuit.Goals as goal

pub place_slow-requires-clause-inputs : goal.place_slow-requires-clause-inputs
place_slow-requires-clause-inputs c = rw c.in_ok-out.ensures (tiny_asks c.args.select c.args.width c.requires.select_low c.requires.select_high c.requires.low c.requires.high)

pub cell-requires-clause-late : goal.cell-requires-clause-late
cell-requires-clause-late c =
    let here : IsLate c.in_ok-out.out (wire 6 1) = rw c.in_ok-out.ensures (late_adv c.args.select c.args.width) in
    (c.in_ok-shown.ensures.joins).late (wire 6 1) here

pub cell-requires-2-clause-late : goal.cell-requires-2-clause-late
cell-requires-2-clause-late c =
    let here : IsLate c.in_ok-out.out (wire 1 1) = rw c.in_ok-out.ensures (late_ra c.args.select c.args.width) in
    (c.in_ok-late.ensures.reads).late (wire 1 1) ((c.in_ok-cell.ensures.drives).late (wire 1 1) (λ e. cc) ((c.in_ok-shown.ensures.joins).late (wire 1 1) here))

pub cell-requires-3-clause-late : goal.cell-requires-3-clause-late
cell-requires-3-clause-late c =
    let w = wire 5 c.args.width in
    let here : IsLate c.in_ok-out.out w = rw c.in_ok-out.ensures (late_a c.args.select c.args.width c.requires.low c.requires.high) in
    (c.in_ok-cell-2.ensures.drives).late w (λ e. cc) ((c.in_ok-late.ensures.reads).late w ((c.in_ok-cell.ensures.drives).late w (λ e. cc) ((c.in_ok-shown.ensures.joins).late w here)))

pub returns-clause-clocked : goal.returns-clause-clocked
returns-clause-clocked c =
    let r0 : RegistersBelow (c.in_ok-out.out).nets 1 = rw c.in_ok-out.ensures (tiny_registers c.args.select c.args.width) in
    let r1 = ((c.in_ok-shown.ensures.places).closes).registers 1 r0 in
    let r2 = subst (λ (d : Draft). RegistersBelow d.nets 1) (sym c.in_ok-cell.ensures.ok) r1 in
    let r3 = ((c.in_ok-late.ensures.makes).closes).registers 1 r2 in
    let r4 = subst (λ (d : Draft). RegistersBelow d.nets 1) (sym c.in_ok-cell-2.ensures.ok) r3 in
    let r5 = subst (λ (d : Draft). RegistersBelow d.nets 1) (sym c.in_ok-cell-3.ensures.ok) r4 in
    rw c.in_ok-next.ensures.ok r5

pub returns-clause-nexts : goal.returns-clause-nexts
returns-clause-nexts c =
    let none = (c.in_ok-cell-3.ensures.drives).nexts ∙ (c.in_ok-cell-2.ensures.drives).nexts ∙ (c.in_ok-late.ensures.reads).nexts ∙ (c.in_ok-cell.ensures.drives).nexts ∙ (c.in_ok-shown.ensures.joins).nexts ∙ ap (λ (d : Draft). d.nexts) c.in_ok-out.ensures in
    rw (c.in_ok-next.ensures.ok, none, c.in_ok-shown.ensures.outputs, c.in_ok-out.ensures) refl

pub returns-clause-ready : goal.returns-clause-ready
returns-clause-ready c =
    let d0 : Draft = c.in_ok-out.out in
    let d1 : Draft = c.place_slow.new.out in
    let d2 : Draft = c.cell.new.self in
    let d3 : Draft = c.make.new.self in
    let d4 : Draft = c.cell-2.new.self in
    let d5 : Draft = c.cell-3.new.self in
    let d6 : Draft = c.next.new.self in
    let base : d0 ≡ tiny_base c.args.select c.args.width = c.in_ok-out.ensures in
    let seven : length d0.nets ≡ 7 = ap (λ (d : Draft). length d.nets) base in
    let busy_is : c.in_ok-shown.shown.busy.number ≡ 7 = ap (λ (s : SlowOutputs). s.busy.number) c.in_ok-shown.ensures.outputs ∙ seven in
    let y_is : c.in_ok-shown.shown.y.number ≡ 8 = ap (λ (s : SlowOutputs). s.y.number) c.in_ok-shown.ensures.outputs ∙ ap (λ n. n + 1) seven in
    let l1 : length d1.nets ≡ 9 = c.in_ok-shown.ensures.long ∙ ap (λ n. n + 2) seven in
    let l2 : length d2.nets ≡ 9 = ap (λ (d : Draft). length d.nets) c.in_ok-cell.ensures.ok ∙ l1 in
    let l3 : length d3.nets ≡ 10 = ap (λ (d : Draft). length d.nets) c.in_ok-late.ensures.ok ∙ length-append d2.nets _ ∙ ap (λ n. n + 1) l2 in
    let late_is : c.in_ok-late.late.number ≡ 9 = ap (λ (w : Wire). w.number) c.in_ok-late.ensures.wire ∙ l2 in
    let l5 : length d5.nets ≡ 10 = ap (λ (d : Draft). length d.nets) c.in_ok-cell-3.ensures.ok ∙ ap (λ (d : Draft). length d.nets) c.in_ok-cell-2.ensures.ok ∙ l3 in
    let l6 : length d6.nets ≡ 10 = ap (λ (d : Draft). length d.nets) c.in_ok-next.ensures.ok ∙ l5 in
    let e1 : Extends (tiny_base c.args.select c.args.width) d1 = subst (λ (d : Draft). Extends d d1) base (c.in_ok-shown.ensures.joins).extends in
    let e6 : Extends d5 d6 = subst (λ (d : Draft). Extends d5 d) (sym c.in_ok-next.ensures.ok) (next_extends d5 _) in
    let busy : ReadyAfter tiny_by d1 (3 ∷ []) 7 = subst (λ n. ReadyAfter tiny_by d1 (3 ∷ []) n) busy_is (c.in_ok-shown.ensures.busy tiny_by refl) in
    let y : ReadyAfter tiny_by d1 (4 ∷ 5 ∷ 0 ∷ 3 ∷ []) 8 = subst (λ n. ReadyAfter tiny_by d1 (4 ∷ 5 ∷ 0 ∷ 3 ∷ []) n) y_is (c.in_ok-shown.ensures.y tiny_by refl) in
    let adv : Drives (7 ∷ []) (wire 6 1) d1 d2 = subst (λ n. Drives (n ∷ []) (wire 6 1) d1 d2) busy_is c.in_ok-cell.ensures.drives in
    let ra : Drives (9 ∷ []) (wire 1 1) d3 d4 = subst (λ n. Drives (n ∷ []) (wire 1 1) d3 d4) late_is c.in_ok-cell-2.ensures.drives in
    tiny_ready c.args.select c.args.width d1 d2 d3 d4 d5 d6 e1 busy y adv c.in_ok-late.ensures.reads l2 l3 ra c.in_ok-cell-3.ensures.drives e6 l6
