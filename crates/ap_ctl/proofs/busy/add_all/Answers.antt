use Rattle.std.proofs.Common.{◌<◌, ◌++◌, ◌∷◌, [], length, get_or, take, sym, ap, ◌∙◌, arith, append-nil, append_assoc}
use Rattle.std.proofs.lemmas.List.{take_all, take_more}
use Rattle.ap_net.specs.declared.cell.Wire.{Wire}
use Rattle.ap_ctl.proofs.Beside.{no_wire}
use Rattle.ap_ctl.proofs.busy.add_all.Goals as goal

pub loop-net-init : goal.loop-net-init
loop-net-init c = sym (append-nil c.args.nets.now)

pub loop-net-preserved : goal.loop-net-preserved
loop-net-preserved c =
    let inside : c.loop-net.net-index < length c.args.more.now = omega arith in
    let x : Wire = get_or c.args.more.now c.loop-net.net-index no_wire in
    c.in_ok-push.ensures.ok ∙ ap (λ l. l ++ x ∷ []) c.loop-net.invariant ∙ append_assoc c.args.nets.now (take c.loop-net.net-index c.args.more.now) (x ∷ [])
    ∙ sym (ap (λ l. c.args.nets.now ++ l) (take_more c.args.more.now c.loop-net.net-index no_wire inside))

pub returns : goal.returns
returns c = c.loop-net.invariant ∙ ap (λ l. c.args.nets.now ++ l) (take_all c.loop-net.net-index c.args.more.now (omega arith))
