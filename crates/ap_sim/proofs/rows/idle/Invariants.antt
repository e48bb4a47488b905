use Rattle.std.proofs.Common.{◌≡◌, map, take}
use Rattle.ap_sim.proofs.RowSteps.{no_value}
use Rattle.ap_sim.proofs.rows.idle.Given as goal

-- there is a 0 for each input so far
abbrev pub invariant-loop : goal.invariant-loop
invariant-loop l = l.ports ≡ map no_value (take l.index l.inputs)
