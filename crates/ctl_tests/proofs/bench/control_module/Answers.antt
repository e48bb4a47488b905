use Rattle.std.proofs.Common.{◌≡◌, ◌<◌, length, sym, ap, subst, ◌∙◌, arith}
use Rattle.ap_net.specs.Modules.{ports_among}
use Rattle.ctl_tests.proofs.AloneDriven.{can_fresh, given_fits, is_driven, no_valid}
use Rattle.ctl_tests.proofs.bench.control_module.Goals as goal

pub control-requires : goal.control-requires
control-requires c = record {
  clean = c.requires.clean;
  given = rw (c.requires.tested, c.in_ok-given.ensures.nets, c.in_ok-given.ensures.given) given_fits;
  names = rw (c.requires.tested, c.in_ok-given.ensures.nets) no_valid;
  fresh = rw c.in_ok-given.ensures.nets can_fresh;
}

pub finish-requires-clause-driven : goal.finish-requires-clause-driven
finish-requires-clause-driven c =
    let y = rw (c.requires.tested, c.in_ok-given.ensures.nets, c.in_ok-given.ensures.given) at c.in_ok-nets.ensures in
    is_driven c.control.new.out c.in_ok-nets.nets y.adds y.follows c.ready_nets_are_driven.ensures

pub finish-requires-clause-port : goal.finish-requires-clause-port
finish-requires-clause-port c =
    let y = rw (c.requires.tested, c.in_ok-given.ensures.nets, c.in_ok-given.ensures.given) at c.in_ok-nets.ensures in
    let six = ap length y.adds.ports in
    omega arith
