use Rattle.std.proofs.Common.{refl, subst}
use Rattle.std.specs.Prelude.{codes}
use Rattle.ap_net.specs.Draft.{names_of}
use Rattle.ap_net.proofs.Laws.{IsNew-is_new, IsNotNumbered-other}
use Rattle.ap_unit.specs.Pieces.{with_inputs, HasValue}
use Rattle.ap_unit.proofs.Single.{unit_of, unit_names}
use Rattle.ap_unit.proofs.pieces.show_result.Goals as goal

pub show-requires-clause-name : goal.show-requires-clause-name
show-requires-clause-name c =
    c.requires.made.names (codes "y") (IsNotNumbered-other (codes "y") refl)
    (IsNew-is_new (codes "y") (names_of (with_inputs c.args.out.now.name c.args.inputs.sel.width c.args.inputs.a.width)) refl)

pub returns-clause-unit : goal.returns-clause-unit
returns-clause-unit c = λ card one select value.
    unit_of c.args.out.now c.show.new.self c.args.inputs.sel.width c.args.inputs.a.width c.args.y c.in_ok-show.field-0 c.requires.made
    (rw (← c.requires.same) c.in_ok-show.ensures.nets) c.in_ok-show.ensures.adds c.in_ok-show.ensures.closes c.in_ok-show.ensures.instances
    (rw (← c.requires.same) c.in_ok-show.ensures.there) c.in_ok-show.ensures.value c.rules.ensures card one select (subst (λ i. HasValue c.args.out.now i c.args.y card) c.requires.inputs value)

pub returns-clause-names : goal.returns-clause-names
returns-clause-names c =
    unit_names c.args.out.now c.show.new.self c.args.inputs.sel.width c.args.inputs.a.width c.args.y c.in_ok-show.field-0 c.requires.made
    (rw (← c.requires.same) c.in_ok-show.ensures.nets) c.in_ok-show.ensures.adds c.in_ok-show.ensures.closes c.in_ok-show.ensures.instances
    (rw (← c.requires.same) c.in_ok-show.ensures.there) c.in_ok-show.ensures.value c.rules.ensures
