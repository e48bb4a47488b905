use Rattle.std.proofs.Common.{[], ◌∷◌, length, true, ap, ◌∙◌, arith, length-append}
use Rattle.std.specs.Prelude.{codes}
use Rattle.ap_net.specs.declared.net.Port.{Port}
use Rattle.ap_net.specs.Modules.{ports_among}
use Rattle.ap_net.proofs.Laws.{Closes-trans, ports_among-shown}
use Rattle.effect_tests.proofs.Alone.{all_driven}
use Rattle.effect_tests.proofs.ports.shown.Goals as goal

pub finish-requires-clause-driven : goal.finish-requires-clause-driven
finish-requires-clause-driven c = all_driven _ _ (Closes-trans _ _ _ c.requires.adds c.in_ok-show.ensures.adds c.requires.closes c.in_ok-show.ensures.closes)

pub finish-requires-clause-port : goal.finish-requires-clause-port
finish-requires-clause-port c =
    let before = ports_among c.args.out.nets in
    let shown : Port = record { name = codes "y"; width = c.args.width; output = true } in
    let ports = ap ports_among c.in_ok-show.ensures.nets ∙ ports_among-shown c.args.out.nets (codes "y") c.args.width in
    let long = ap length ports ∙ length-append before (shown ∷ []) in
    omega (arith, long)
