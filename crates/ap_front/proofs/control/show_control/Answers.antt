use Rattle.std.proofs.Common.{sym, subst, ◌∙◌, List, get_or}
use Rattle.ap_net.specs.declared.cell.Wire.{Wire}
use Rattle.ap_ctl.specs.Building.{IsBit}
use Rattle.ap_front.specs.Shown.{ShowsNet}
use Rattle.ap_front.proofs.Shown.{first_is, first_there, no_net, shows_control}
use Rattle.ap_front.proofs.Driving.{bit_on}
use Rattle.ap_front.proofs.control.show_control.Goals as goal

pub show-requires : goal.show-requires
show-requires c =
    let h : IsBit c.args.out.now.nets (get_or c.as_slice.result.now 0 no_net) = subst (λ (l : List Wire). IsBit c.args.out.now.nets (get_or l 0 no_net)) (sym c.as_slice.ensures) (first_is c.args.out.now c.args.nets.now.hold c.requires.some c.requires.hold) in
    record { late = c.requires.stall; net = h.net; same = c.requires.stall_bit ∙ sym h.bit }

pub show-requires-2 : goal.show-requires-2
show-requires-2 c =
    let s = c.in_ok-show.ensures in
    record { late = s.drives.late c.args.kill c.requires.apart c.requires.kill; net = (bit_on s.drives.extends c.args.nets.now.kill c.requires.killed).net; same = c.requires.kill_bit ∙ sym c.requires.killed.bit }

pub returns : goal.returns
returns c =
    let hold : Wire = get_or c.args.nets.now.hold 0 no_net in
    let h = first_is c.args.out.now c.args.nets.now.hold c.requires.some c.requires.hold in
    let shown : ShowsNet c.args.stall hold c.args.out.now c.show.new.out = subst (λ (l : List Wire). ShowsNet c.args.stall (get_or l 0 no_net) c.args.out.now c.show.new.out) c.as_slice.ensures c.in_ok-show.ensures in
    shows_control c.args.nets.now hold c.args.stall c.args.kill c.args.out.now c.show.new.out c.show-2.new.out (first_there c.args.nets.now.hold c.requires.some) h.bit c.requires.killed.bit shown c.in_ok-show-2.ensures
