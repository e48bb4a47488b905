use Rattle.std.proofs.Common.{◌≡◌, ◌<◌, suc, ◌+◌, ◌∷◌, [], ◌++◌, length, map, get_or, take, drop, sym, ap, subst, ◌∙◌, arith, List}
use Rattle.std.specs.Prelude.{IsTrue}
use Rattle.std.proofs.lemmas.List.{take_all, take_more}
use Rattle.std.proofs.Math.Seq.{drop-cons}
use Rattle.ap_desc.specs.Designs.{is_reg_within}
use Rattle.ap_desc.specs.declared.design.Reg.{Reg}
use Rattle.ap_net.specs.declared.cell.Wire.{Wire}
use Rattle.ap_net.specs.Draft.{Draft}
use Rattle.ap_net.specs.Names.{AreDistinct}
use Rattle.ap_flight.proofs.Plans.{same_item}
use Rattle.ap_bank.specs.Regs.{AreNewRegs, IsNewReg, KeepsOtherRegs, reg_wires, with_regs}
use Rattle.ap_bank.proofs.Declared.{each_at, name_of, new_rest, no_reg, others_more, regs_count, regs_more, regs_none, wires_more}
use Rattle.ap_bank.proofs.regs.declare.Goals as goal

pub loop-reg-init : goal.loop-reg-init
loop-reg-init c = record { out = regs_none c.args.out.now; wires = c.new-made.ensures; new = c.requires.new; apart = c.requires.apart; fresh = c.requires.fresh; late = λ x h. h; others = λ name apart new. new }

pub declare_one-requires : goal.declare_one-requires
declare_one-requires c =
    let i = c.loop-reg.reg-index in
    let regs : List Reg = c.args.regs.now in
    let inside : i < length regs = omega arith in
    let h = c.loop-reg.invariant in
    let same : get_or regs i no_reg ≡ c.reg-item.result = same_item regs i no_reg c.reg-item.result inside c.reg-item.is in
    record {
      within = subst (λ (r : Reg). IsTrue (is_reg_within r)) same (each_at (λ (r : Reg). IsTrue (is_reg_within r)) regs i c.requires.within inside);
      new = subst (IsNewReg c.loop-reg.out) same (subst (λ l. AreNewRegs l c.loop-reg.out) (drop-cons regs i no_reg inside) h.new).0;
      fresh = h.fresh;
    }

pub loop-reg-preserved : goal.loop-reg-preserved
loop-reg-preserved c =
    let h = c.loop-reg.invariant in
    let y = c.in_ok-register.ensures in
    let i = c.loop-reg.reg-index in
    let a : Draft = c.args.out.now in
    let regs : List Reg = c.args.regs.now in
    let inside : i < length regs = omega arith in
    let r : Reg = c.reg-item.result in
    let same : get_or regs i no_reg ≡ r = same_item regs i no_reg r inside c.reg-item.is in
    let more : take (i + 1) regs ≡ take i regs ++ r ∷ [] = take_more regs i no_reg inside ∙ ap (λ (x : Reg). take i regs ++ x ∷ []) same in
    let next : suc i ≡ i + 1 = omega arith in
    let left : drop i regs ≡ r ∷ drop (i + 1) regs = drop-cons regs i no_reg inside ∙ ap (λ n. get_or regs i no_reg ∷ drop n regs) next ∙ ap (λ (x : Reg). x ∷ drop (i + 1) regs) same in
    let is : c.declare_one.new.out ≡ with_regs (with_regs a (take i regs)) (r ∷ []) = y.ok ∙ ap (λ (d : Draft). with_regs d (r ∷ [])) h.out in
    let count : length c.loop-reg.out.nets ≡ length a.nets + length (take i regs) = ap (λ (d : Draft). length d.nets) h.out ∙ regs_count a (take i regs) in
    let wire : c.in_ok-register.register ≡ record { number = length a.nets + length (take i regs); width = r.width } = y.wire ∙ ap (λ n. record { number = n; width = r.width }) count in
    let all : c.declare_one.new.out ≡ with_regs a (take (i + 1) regs) = is ∙ regs_more a (take i regs) r ∙ ap (with_regs a) (sym more) in
    let names = subst (λ l. AreDistinct (map name_of l)) left h.apart in
    record {
      out = all;
      wires = c.in_ok-push.ensures.ok ∙ ap (λ l. l ++ c.in_ok-register.register ∷ []) h.wires ∙ ap (λ (w : Wire). reg_wires (length a.nets) (take i regs) ++ w ∷ []) wire
          ∙ sym (wires_more (length a.nets) (take i regs) r) ∙ ap (reg_wires (length a.nets)) (sym more);
      new = subst (λ (d : Draft). AreNewRegs (drop (i + 1) regs) d) (sym y.ok) (new_rest c.loop-reg.out r (drop (i + 1) regs) names.0 (subst (λ l. AreNewRegs l c.loop-reg.out) left h.new).1);
      apart = names.1;
      fresh = y.fresh;
      late = λ x k. y.late x (h.late x k);
      others = subst (λ l. KeepsOtherRegs l a c.declare_one.new.out) (sym more)
          (subst (λ (d : Draft). KeepsOtherRegs (take i regs ++ r ∷ []) a d) (sym is) (others_more a (take i regs) r (subst (λ (d : Draft). KeepsOtherRegs (take i regs) a d) h.out h.others)));
    }

pub returns-clause-ok : goal.returns-clause-ok
returns-clause-ok c = c.loop-reg.invariant.out ∙ ap (with_regs c.args.out.now) (take_all c.loop-reg.reg-index c.args.regs.now (omega arith))

pub returns-clause-wires : goal.returns-clause-wires
returns-clause-wires c = c.loop-reg.invariant.wires ∙ ap (reg_wires (length c.args.out.now.nets)) (take_all c.loop-reg.reg-index c.args.regs.now (omega arith))

pub returns-clause-others : goal.returns-clause-others
returns-clause-others c = subst (λ l. KeepsOtherRegs l c.args.out.now c.loop-reg.out) (take_all c.loop-reg.reg-index c.args.regs.now (omega arith)) c.loop-reg.invariant.others
