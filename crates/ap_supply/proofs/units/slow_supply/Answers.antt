use Rattle.std.proofs.Common.{sym, ap, ◌∙◌}
use Rattle.std.specs.Prelude.{option_copied}
use Rattle.ap_supply.proofs.SlowOnes.{slow_is, slow_there}
use Rattle.ap_supply.proofs.units.slow_supply.Goals as goal

pub unreachable-requires : goal.unreachable-requires
unreachable-requires c = slow_there c.args.slow.now c.args.unit c.requires (sym c.slow_for.ensures ∙ ap option_copied c.in_default.is)

pub returns : goal.returns
returns c =
    let h = slow_is c.args.slow.now c.args.unit c.in-Some.x.now (sym c.slow_for.ensures ∙ ap option_copied c.in-Some.is) in
    record { was = record { placed = c.in-Some.x.now; among = h.0; own = h.1 }; is = c.wires_of.ensures }
