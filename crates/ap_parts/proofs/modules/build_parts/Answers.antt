use Rattle.ap_unit.specs.Shelves.{cards_of}
use Rattle.ap_parts.proofs.modules.build_parts.Goals as goal

pub returns-clause-parts : goal.returns-clause-parts
returns-clause-parts g c = c.built_are_parts.ensures.parts (cards_of (λ x. (goal.UnitKind-dyn g x).card x.1) c.args.shelf.now) c.args.design.now
    c.in_ok-made.made.modules.items c.in_ok-made.made.units c.in_ok-made.made.kinds c.requires.fits c.requires.first c.in_ok-made.ensures

pub returns-clause-has : goal.returns-clause-has
returns-clause-has g c = c.built_are_parts.ensures.has (cards_of (λ x. (goal.UnitKind-dyn g x).card x.1) c.args.shelf.now) c.args.design.now
    c.in_ok-made.made.modules.items c.in_ok-made.made.units c.in_ok-made.made.kinds c.requires.fits c.requires.first c.in_ok-made.ensures

pub returns-clause-known : goal.returns-clause-known
returns-clause-known g c = c.built_are_parts.ensures.known (cards_of (λ x. (goal.UnitKind-dyn g x).card x.1) c.args.shelf.now) c.args.design.now
    c.in_ok-made.made.modules.items c.in_ok-made.made.units c.in_ok-made.made.kinds c.requires.fits c.in_ok-made.ensures
