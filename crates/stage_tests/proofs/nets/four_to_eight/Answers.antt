use Rattle.std.proofs.Common.{arith}
use Rattle.ap_net.proofs.Laws.{Makes-trans}
use Rattle.stage_tests.proofs.Alone.{made_shown}
use Rattle.stage_tests.proofs.nets.four_to_eight.Goals as goal

pub shown-requires : goal.shown-requires
shown-requires c =
    let wide = c.in_ok-wide.ensures in
    let h = made_shown _ _ _ c.in_ok-out.ensures (Makes-trans _ _ _ c.in_ok-a.ensures.wiring.makes wide.wiring.makes) in
    record { adds = h.adds; closes = h.closes; new = h.new; net = wide.carries.net; wide = wide.carries.wide; low = omega arith; high = omega arith }
