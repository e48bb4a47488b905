-- The lines of a stage that use ports name what is there, and make locals of their own.
use Rattle.std.proofs.Common.{◌≡◌, ℕ, ◌+◌, ◌<◌, List, length, Some, sym, ap, subst, ◌∙◌, arith, true}
use Rattle.std.specs.Prelude.{slice_get}
use Rattle.std.specs.List.{AllByRecursion as Each}
use Rattle.std.proofs.lemmas.Option.{same_Some, slice_get_within}
use Rattle.ap_bits.specs.declared.card.Card.{Card}
use Rattle.ap_desc.specs.Chains.{makers, operands_of}
use Rattle.ap_desc.specs.Clean.{FitsCards}
use Rattle.ap_desc.specs.Designs.{IsArg, fields_of}
use Rattle.ap_desc.specs.declared.design.Act.{Act}
use Rattle.ap_desc.specs.declared.design.Act.TheVariants as act
use Rattle.ap_desc.specs.declared.design.Design.{Design}
use Rattle.ap_desc.specs.declared.design.Instr.{Instr}
use Rattle.ap_desc.specs.declared.design.Micro.{Micro}
use Rattle.ap_ports.proofs.Members.{each_of}
use Rattle.ap_stage.specs.declared.node.Course.{Course}
use Rattle.ap_stage.specs.declared.node.PortUse.{PortUse}
use Rattle.ap_stage.specs.Courses.{AreUses, IsUse}
use Rattle.ap_stage.specs.Users.{args_of}
use Rattle.ap_ports.specs.Numbers.{node_number}
use Rattle.ap_course.specs.Instrs.{IsCourseOf}
use Rattle.ap_course.specs.Lines.{is_portless}
use Rattle.ap_course.proofs.Fits.{args_more}
use Rattle.ap_course.proofs.Lined.{line_from, line_is, use_from, use_is, uses_apart}
use Rattle.ap_course.proofs.Makers.{good_at, maker_at}
use Rattle.ap_course.proofs.Whole.{asked_operands}

-- a line that uses a port is none without one
never_both : (a : Act) (n : ℕ) → is_portless a ≡ true → node_number a ≡ Some n → ⊥
never_both (act.Compute u op a b) n portless port = absurd cc
never_both (act.ReadFile file number index) n portless port = absurd cc
never_both (act.ReadMem mem at) n portless port = absurd cc
never_both (act.ReadReg reg) n portless port = absurd cc
never_both (act.ReadIn input) n portless port = absurd cc
never_both (act.Const width value) n portless port = absurd cc
never_both (act.Zext width a) n portless port = absurd cc
never_both (act.Sext width a) n portless port = absurd cc
never_both (act.Slice high low a) n portless port = absurd cc
never_both (act.Cat a b) n portless port = absurd cc
never_both _ n portless port = absurd cc

module _ (design : Design) (cards : List Card) (stage k : ℕ) (instr : Instr) (c : Course) (fits : FitsCards design cards) (at : slice_get design.instrs k ≡ Some instr) (of : IsCourseOf design stage instr c) where
  use_can : (j : ℕ) (u : PortUse) → slice_get c.uses j ≡ Some u → IsUse c u
  use_can j u there =
      let from = use_from stage instr j u (ap (λ us. slice_get us j) (sym of.uses) ∙ there) in
      let is = use_is stage (0 + from.place) from.item u from.gives in
      let maker = maker_at design instr (good_at design cards k instr fits at) from.place from.item from.at in
      let low = slice_get_within instr.locals from.place maker.width maker.has in
      let number : u.local ≡ from.place = let n = is.number in omega (arith, n) in
      let args : Each (IsArg (length instr.locals) (fields_of design instr)) (args_of u.asked) =
      subst (Each (IsArg (length instr.locals) (fields_of design instr))) (sym (asked_operands from.item.act u.asked is.asks)) (args_more from.place (length instr.locals) (fields_of design instr) (operands_of from.item.act) (omega (arith, low)) maker.operands) in
      record {
        args = subst (λ s. Each (IsArg (length s.widths) s.fields) (args_of u.asked)) (sym of.scope) args;
        local = subst (λ s. u.local < length s.widths) (sym of.scope) (omega (arith, low, number));
        apart = λ i l that made.
            let one = line_from stage instr i l (ap (λ ls. slice_get ls i) (sym of.lines) ∙ that) in
            let line = line_is stage (0 + one.place) one.item l one.gives in
            let place : one.place ≡ from.place = let n = line.number in omega (arith, n, number, made) in
            let same : one.item ≡ from.item = same_Some one.item from.item (sym one.at ∙ ap (slice_get (makers instr)) place ∙ from.at) in
            never_both from.item.act u.port (subst (λ (m : Micro). is_portless m.act ≡ true) same line.portless) is.port;
      }

  pub uses_can : AreUses c
  uses_can = record {
    each = each_of (IsUse c) c.uses use_can;
    apart = λ j i one other there that same. uses_apart stage instr j i one other (ap (λ us. slice_get us j) (sym of.uses) ∙ there) (ap (λ us. slice_get us i) (sym of.uses) ∙ that) same;
  }
