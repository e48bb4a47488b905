use Rattle.std.proofs.Common.{sym, subst, arith}
use Rattle.std.specs.Prelude.{codes}
use Rattle.ap_net.specs.Draft.{CanFresh}
use Rattle.ap_net.proofs.Laws.{Makes-trans}
use Rattle.ap_effect.proofs.Growing.{writers_on}
use Rattle.effect_tests.proofs.Alone.{fresh_blank, made_shown}
use Rattle.effect_tests.proofs.transfers.two.Goals as goal

pub two_transfers-requires : goal.two_transfers-requires
two_transfers-requires c = subst CanFresh (sym c.in_ok-out.ensures) (fresh_blank (codes "transfer"))

pub bit-requires : goal.bit-requires
bit-requires c = c.in_ok-transfers.ensures.makes.fresh (subst CanFresh (sym c.in_ok-out.ensures) (fresh_blank (codes "transfer")))

pub transfer_nets-requires-clause-transfers : goal.transfer_nets-requires-clause-transfers
transfer_nets-requires-clause-transfers c = writers_on _ _ _ 4 _ c.in_ok-valid.ensures.makes c.in_ok-transfers.ensures.transfers

pub shown-requires : goal.shown-requires
shown-requires c =
    let nets = c.in_ok-nets.ensures.nets in
    let h = made_shown _ _ _ c.in_ok-out.ensures (Makes-trans _ _ _ c.in_ok-transfers.ensures.makes (Makes-trans _ _ _ c.in_ok-valid.ensures.makes c.in_ok-nets.ensures.makes)) in
    record { adds = h.adds; closes = h.closes; new = h.new; net = nets.target.net; wide = nets.target.wide; low = omega arith; high = omega arith }

pub shown-requires-else-target : goal.shown-requires-else-target
shown-requires-else-target c =
    let nets = c.in_ok-nets.ensures.nets in
    let h = made_shown _ _ _ c.in_ok-out.ensures (Makes-trans _ _ _ c.in_ok-transfers.ensures.makes (Makes-trans _ _ _ c.in_ok-valid.ensures.makes c.in_ok-nets.ensures.makes)) in
    record { adds = h.adds; closes = h.closes; new = h.new; net = nets.taken.carries.net; wide = nets.taken.carries.wide; low = omega arith; high = omega arith }
