use Rattle.std.proofs.Common.{refl, sym, subst}
use Rattle.ap_top.specs.FormUnit.{IsSeen}
use Rattle.ap_top.specs.Base.{IsTop}
use Rattle.ap_top.proofs.FormUnit.{form_unit, first_width, seen}
use Rattle.ap_top.proofs.machine.two_stage.Goals as goal

pub make_shown-requires-clause-unit : goal.make_shown-requires-clause-unit
make_shown-requires-clause-unit g c =
    let is = form_unit _ _ _ c.in_ok-unit.ensures.name c.in_ok-unit.ensures.kept c.in_ok-unit.ensures.unit c.requires.quick in
    subst (λ s. IsSeen (c.args.form).width c.args.add s c.in_ok-unit.unit) (sym (first_width _ _ _ is c.ports.result.now c.index-ports-0.result c.ports.ensures)) (seen _ _ _ _ is)

pub joined-requires : goal.joined-requires
joined-requires g c =
    let is = form_unit _ _ _ c.in_ok-unit.ensures.name c.in_ok-unit.ensures.kept c.in_ok-unit.ensures.unit c.requires.quick in
    (subst (λ s. IsTop c.args.form c.args.add s c.in_ok-top.top) (first_width _ _ _ is c.ports.result.now c.index-ports-0.result c.ports.ensures) c.in_ok-top.ensures _ refl c.in_ok-unit.unit is).0

pub returns : goal.returns
returns g c =
    let is = form_unit _ _ _ c.in_ok-unit.ensures.name c.in_ok-unit.ensures.kept c.in_ok-unit.ensures.unit c.requires.quick in
    record {
      unit = c.in_ok-unit.unit;
      top = c.in_ok-top.top;
      both = c.in_ok-design.ensures;
      is_unit = is;
      is_top = subst (λ s. IsTop c.args.form c.args.add s c.in_ok-top.top) (first_width _ _ _ is c.ports.result.now c.index-ports-0.result c.ports.ensures) c.in_ok-top.ensures;
    }
