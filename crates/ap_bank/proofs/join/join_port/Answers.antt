use Rattle.std.proofs.Common.{sym}
use Rattle.ap_net.proofs.Laws.{Extends-trans}
use Rattle.ap_bank.proofs.Joined.{can_index_later, can_later, copy_later, index_apart, wires_more}
use Rattle.ap_bank.proofs.join.join_port.Goals as goal

pub join-requires : goal.join-requires
join-requires c = c.requires.enable

pub join-requires-2 : goal.join-requires-2
join-requires-2 c = can_later _ _ _ c.args.to.value c.args.from.value c.in_ok-join.ensures.wires ((λ e. c.requires.apart.0.0 (sym e)), tt) c.requires.value

pub join_index-requires : goal.join_index-requires
join_index-requires c =
    let both = wires_more _ _ _ _ _ c.in_ok-join.ensures.wires c.in_ok-join-2.ensures.wires in
    can_index_later _ _ _ c.args.to.index c.args.from.index both (λ t e. index_apart c.args.to t e c.requires.apart) c.requires.index

pub returns : goal.returns
returns c =
    let one = c.in_ok-join.ensures in
    let two = c.in_ok-join-2.ensures in
    let three = c.in_ok-join_index.ensures in
    record {
      enable = copy_later (Extends-trans _ _ _ two.wires.extends three.wires.extends) one.copy;
      value = copy_later three.wires.extends two.copy;
      index = three.copy;
      wires = wires_more _ _ _ _ _ one.wires (wires_more _ _ _ _ _ two.wires three.wires);
    }
