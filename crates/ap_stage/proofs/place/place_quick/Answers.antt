use Rattle.std.proofs.Common.{ap}
use Rattle.ap_net.specs.declared.cell.Wire.{Wire}
use Rattle.ap_stage.proofs.Placed.{quick_places, quick_shallow, quick_value, quick_yields}
use Rattle.ap_stage.proofs.place.place_quick.Goals as goal

pub returns-clause-carries : goal.returns-clause-carries
returns-clause-carries c = record {
  net = c.in_ok-y.ensures.net;
  wide = ap (λ (w : Wire). w.width) c.in_ok-y.ensures.y;
  means = record {
    holds = λ r s m card found computes few.
        rw c.in_ok-y.ensures.y (quick_value c.args.out.now c.args.name.now c.args.unit.now c.args.sel c.args.a c.args.b c.requires.unit m card r.read _ (c.in_ok-y.ensures.part.holds r s m found) computes few);
  };
}

pub returns-clause-yields : goal.returns-clause-yields
returns-clause-yields c = rw c.in_ok-y.ensures.y (quick_yields c.args.out.now c.args.name.now c.args.unit.now c.args.sel c.args.a c.args.b c.requires.unit _ c.in_ok-y.ensures.ok c.in_ok-y.ensures.joins)

pub returns-clause-places : goal.returns-clause-places
returns-clause-places c = rw c.in_ok-y.ensures.y (quick_places c.args.out.now c.args.name.now c.args.unit.now c.args.sel c.args.a c.args.b c.requires.unit _ c.in_ok-y.ensures.ok c.in_ok-y.ensures.joins c.in_ok-y.ensures.places c.in_ok-y.ensures.connects)

pub returns-clause-shallow : goal.returns-clause-shallow
returns-clause-shallow c = rw c.in_ok-y.ensures.y (quick_shallow c.args.out.now c.args.name.now c.args.unit.now c.args.sel c.args.a c.args.b c.requires.unit _ c.in_ok-y.ensures.ok c.in_ok-y.ensures.joins c.in_ok-y.ensures.places)
