use Rattle.std.proofs.Common.{◌≢◌, length, Option, refl, sym, ap, subst, ◌∙◌}
use Rattle.std.specs.Prelude.{IfSome, slice_get}
use Rattle.std.specs.List.{AllByRecursion as Each}
use Rattle.std.proofs.lemmas.List.{with_items_is}
use Rattle.ap_net.proofs.Laws.{IsNet-Makes}
use Rattle.ap_stage.specs.declared.node.PortUse.{PortUse}
use Rattle.ap_stage.specs.Rows.{AreClosed, AreMade, Keeps}
use Rattle.ap_stage.specs.Sources.{IsRow, source_numbers}
use Rattle.ap_stage.specs.Trees.{IsShallow}
use Rattle.ap_stage.proofs.Coursed.{from_none, from_one}
use Rattle.ap_stage.proofs.Users.{use_is, uses_on}
use Rattle.ap_stage.proofs.node.take_result.Goals as goal

pub take_net-requires-clause-made : goal.take_net-requires-clause-made
take_net-requires-clause-made c = rw (c.as_slice-lines.ensures, c.deref_mut.ensures.value) c.requires.course.made

pub take_net-requires-clause-apart : goal.take_net-requires-clause-apart
take_net-requires-clause-apart c = rw c.as_slice-lines.ensures (use_is c.args.port c.args.course.now c.in-Some.used (sym c.use_of.ensures ∙ c.in-Some.is) c.requires.course.uses.each).apart

pub returns-clause-course : goal.returns-clause-course
returns-clause-course c =
    let h = c.requires.course in
    let y = c.in_ok-take_net.ensures in
    let out = c.take_net.new.out in
    let old = c.args.course.now in
    let ground = c.args.ground.now in
    let same = with_items_is old.row c.take_net.new.row (y.keeps.long ∙ ap length c.deref_mut.ensures.value ∙ sym old.row.ok.0) in
    record {
      cond = IsNet-Makes _ _ old.cond y.makes h.cond;
      one_bit = h.one_bit;
      fields = h.fields;
      row = subst (IsRow out.nets old.scope) (sym same) y.row;
      lines = h.lines;
      uses = uses_on old _ refl refl refl h.uses;
      made = subst (λ row. AreMade out ground old.scope row old.lines) (sym same) (rw c.as_slice-lines.ensures at y.made);
      closed = subst (λ row. AreClosed row old.lines (length old.lines)) (sym same) (rw c.as_slice-lines.ensures at y.closed);
      low = subst (λ row. Each (IsShallow out 0) (source_numbers ground row)) (sym same) y.low;
    }

pub returns-clause-goes_on : goal.returns-clause-goes_on
returns-clause-goes_on c =
    let y = c.in_ok-take_net.ensures in
    let old = c.args.course.now in
    let same = with_items_is old.row c.take_net.new.row (y.keeps.long ∙ ap length c.deref_mut.ensures.value ∙ sym old.row.ok.0) in
    record {
      cond = refl;
      scope = refl;
      lines = refl;
      uses = refl;
      keeps = subst (Keeps old.row.items) (sym same) (rw c.deref_mut.ensures.value at y.keeps);
      others = λ local e.
          ap (λ row. slice_get row local) same
          ∙ y.others local (subst (λ (o : Option PortUse). IfSome o (λ u. local ≢ u.local)) (sym c.use_of.ensures ∙ c.in-Some.is) e.used) (rw c.as_slice-lines.ensures e.lines)
          ∙ ap (λ row. slice_get row local) c.deref_mut.ensures.value;
    }

pub returns-in_default-clause-from : goal.returns-in_default-clause-from
returns-in_default-clause-from c = from_none c.args.ground.now c.args.course.now c.args.y _

pub returns-clause-from : goal.returns-clause-from
returns-clause-from c =
    let y = c.in_ok-take_net.ensures in
    let out = c.take_net.new.out in
    let old = c.args.course.now in
    let ground = c.args.ground.now in
    let same = with_items_is old.row c.take_net.new.row (y.keeps.long ∙ ap length c.deref_mut.ensures.value ∙ sym old.row.ok.0) in
    from_one ground old c.args.y _ _ (c.take_net.new.row) _ same (rw c.deref_mut.ensures.value at y.from)
