use Rattle.std.proofs.Common.{length, sym, ap, subst, ◌∙◌, arith}
use Rattle.std.specs.Prelude.{codes}
use Rattle.ap_net.specs.Draft.{CanFresh}
use Rattle.ap_net.proofs.Laws.{Makes-trans}
use Rattle.ap_merge.specs.Selects.{GoesOver}
use Rattle.ap_ctl.proofs.Bits.{IsBit-Tells}
use Rattle.ap_effect.proofs.Growing.{writers_on}
use Rattle.effect_tests.proofs.Alone.{fresh_blank, made_shown}
use Rattle.effect_tests.proofs.Shown.{index_there}
use Rattle.effect_tests.proofs.ports.three.Goals as goal

pub three_writers-requires : goal.three_writers-requires
three_writers-requires c = subst CanFresh (sym c.in_ok-out.ensures) (fresh_blank (codes "port"))

pub bit-requires : goal.bit-requires
bit-requires c = c.in_ok-writers.ensures.makes.fresh (subst CanFresh (sym c.in_ok-out.ensures) (fresh_blank (codes "port")))

pub write_nets-requires : goal.write_nets-requires
write_nets-requires c =
    let writers = c.in_ok-writers.ensures in
    let long = ap length c.deref.ensures.value ∙ writers.count in
    record {
      fresh = c.in_ok-fires.ensures.makes.fresh (writers.makes.fresh (subst CanFresh (sym c.in_ok-out.ensures) (fresh_blank (codes "port"))));
      fires = c.in_ok-fires.ensures.net;
      some = omega arith;
      writers = rw c.deref.ensures.value (writers_on _ _ _ 8 _ c.in_ok-fires.ensures.makes writers.writers);
      over = subst (GoesOver c.in_ok-select.select 0) (sym long) c.in_ok-select.ensures;
    }

pub show_net-requires : goal.show_net-requires
show_net-requires c =
    let nets = c.in_ok-nets.ensures.nets in
    let h = made_shown _ _ _ c.in_ok-out.ensures (Makes-trans _ _ _ c.in_ok-writers.ensures.makes (Makes-trans _ _ _ c.in_ok-fires.ensures.makes c.in_ok-nets.ensures.makes)) in
    record { adds = h.adds; closes = h.closes; new = h.new; enable = IsBit-Tells nets.enable; index = index_there _ _ 4 _ nets.index; value = nets.value.net; wide = nets.value.wide }
