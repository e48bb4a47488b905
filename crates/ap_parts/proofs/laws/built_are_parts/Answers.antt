use Rattle.ap_parts.proofs.BuiltParts.{are_parts, have_parts}
use Rattle.ap_parts.proofs.KnownParts.{are_known}
use Rattle.ap_parts.proofs.laws.built_are_parts.Goals as goal

pub returns-clause-parts : goal.returns-clause-parts
returns-clause-parts c = λ cards design modules places kinds fits first built. are_parts cards design modules places kinds fits built first

pub returns-clause-has : goal.returns-clause-has
returns-clause-has c = λ cards design modules places kinds fits first built.
    have_parts cards design modules places kinds fits built c.slow_units_depend.ensures c.files_depend.ensures first

pub returns-clause-known : goal.returns-clause-known
returns-clause-known c = λ cards design modules places kinds fits built. are_known cards design modules places kinds fits built
