use Rattle.std.proofs.Common.{◌≡◌, ◌<◌, suc, ◌+◌, ◌∷◌, [], ◌++◌, length, get_or, take, drop, refl, sym, ap, subst, ◌∙◌, arith, List}
use Rattle.std.proofs.lemmas.List.{take_all, take_more}
use Rattle.std.proofs.Math.Seq.{drop-cons}
use Rattle.ap_net.specs.declared.cell.Wire.{Wire}
use Rattle.ap_net.specs.Draft.{Draft}
use Rattle.ap_net.specs.Modules.{ports_among}
use Rattle.ap_flight.specs.declared.plan.Planned.{Planned}
use Rattle.ap_flight.specs.Planned.{AreNew, IsNewIn, IsPlan, KeepsOther, register_wires, with_registers}
use Rattle.ap_flight.proofs.Plans.{each_at, new_rest, no_plan, others_more, ports_registers, registers_count, registers_more, registers_none, same_item, wires_more}
use Rattle.ap_flight.proofs.plan.declare.Goals as goal

pub loop-planned-init : goal.loop-planned-init
loop-planned-init c = record { out = registers_none c.args.out.now; wires = c.new-made.ensures; new = c.requires.new; fresh = c.requires.fresh; late = λ x h. h; ports = refl; others = λ name apart new. new }

pub declare_one-requires : goal.declare_one-requires
declare_one-requires c =
    let i = c.loop-planned.planned-index in
    let plan : List Planned = c.args.plan.now in
    let inside : i < length plan = omega arith in
    let h = c.loop-planned.invariant in
    let same : get_or plan i no_plan ≡ c.planned-item.result = same_item plan i no_plan c.planned-item.result inside c.planned-item.is in
    record {
      plan = subst IsPlan same (each_at IsPlan plan i c.requires.plan inside);
      new = subst (IsNewIn c.loop-planned.out) same (subst (λ l. AreNew l c.loop-planned.out) (drop-cons plan i no_plan inside) h.new).each.0;
      fresh = h.fresh;
    }

pub loop-planned-preserved : goal.loop-planned-preserved
loop-planned-preserved c =
    let h = c.loop-planned.invariant in
    let y = c.in_ok-register.ensures in
    let i = c.loop-planned.planned-index in
    let a : Draft = c.args.out.now in
    let plan : List Planned = c.args.plan.now in
    let inside : i < length plan = omega arith in
    let p : Planned = c.planned-item.result in
    let same : get_or plan i no_plan ≡ p = same_item plan i no_plan p inside c.planned-item.is in
    let more : take (i + 1) plan ≡ take i plan ++ p ∷ [] = take_more plan i no_plan inside ∙ ap (λ (x : Planned). take i plan ++ x ∷ []) same in
    let next : suc i ≡ i + 1 = omega arith in
    let left : drop i plan ≡ p ∷ drop (i + 1) plan = drop-cons plan i no_plan inside ∙ ap (λ n. get_or plan i no_plan ∷ drop n plan) next ∙ ap (λ (x : Planned). x ∷ drop (i + 1) plan) same in
    let is : c.declare_one.new.out ≡ with_registers (with_registers a (take i plan)) (p ∷ []) = y.ok ∙ ap (λ (d : Draft). with_registers d (p ∷ [])) h.out in
    let count : length c.loop-planned.out.nets ≡ length a.nets + length (take i plan) = ap (λ (d : Draft). length d.nets) h.out ∙ registers_count a (take i plan) in
    let wire : c.in_ok-register.register ≡ record { number = length a.nets + length (take i plan); width = p.width } = y.wire ∙ ap (λ n. record { number = n; width = p.width }) count in
    let all : c.declare_one.new.out ≡ with_registers a (take (i + 1) plan) = is ∙ registers_more a (take i plan) p ∙ ap (with_registers a) (sym more) in
    record {
      out = all;
      wires = c.in_ok-push.ensures.ok ∙ ap (λ l. l ++ c.in_ok-register.register ∷ []) h.wires ∙ ap (λ (w : Wire). register_wires (length a.nets) (take i plan) ++ w ∷ []) wire
          ∙ sym (wires_more (length a.nets) (take i plan) p) ∙ ap (register_wires (length a.nets)) (sym more);
      new = subst (λ (d : Draft). AreNew (drop (i + 1) plan) d) (sym y.ok) (new_rest c.loop-planned.out p (drop (i + 1) plan) (subst (λ l. AreNew l c.loop-planned.out) left h.new));
      fresh = y.fresh;
      late = λ x k. y.late x (h.late x k);
      ports = ap (λ (d : Draft). ports_among d.nets) y.ok ∙ ports_registers c.loop-planned.out (p ∷ []) ∙ h.ports;
      others = subst (λ l. KeepsOther l a c.declare_one.new.out) (sym more)
          (subst (λ (d : Draft). KeepsOther (take i plan ++ p ∷ []) a d) (sym is) (others_more a (take i plan) p (subst (λ (d : Draft). KeepsOther (take i plan) a d) h.out h.others)));
    }

pub returns-clause-ok : goal.returns-clause-ok
returns-clause-ok c = c.loop-planned.invariant.out ∙ ap (with_registers c.args.out.now) (take_all c.loop-planned.planned-index c.args.plan.now (omega arith))

pub returns-clause-wires : goal.returns-clause-wires
returns-clause-wires c = c.loop-planned.invariant.wires ∙ ap (register_wires (length c.args.out.now.nets)) (take_all c.loop-planned.planned-index c.args.plan.now (omega arith))

pub returns-clause-others : goal.returns-clause-others
returns-clause-others c = subst (λ l. KeepsOther l c.args.out.now c.loop-planned.out) (take_all c.loop-planned.planned-index c.args.plan.now (omega arith)) c.loop-planned.invariant.others
