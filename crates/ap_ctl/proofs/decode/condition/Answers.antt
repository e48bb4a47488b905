use Rattle.std.proofs.Common.{map, sym, subst, ◌∙◌, ap, List}
use Rattle.std.specs.Prelude.{filter}
use Rattle.std.specs.List.{AllByRecursion as Each, list_all}
use Rattle.ap_net.specs.declared.cell.Wire.{Wire}
use Rattle.ap_net.specs.Ready.{numbers}
use Rattle.ap_net.specs.Pending.{Among}
use Rattle.ap_ctl.specs.declared.decode.Compared.{Compared}
use Rattle.ap_ctl.specs.Building.{IsBit, is_on}
use Rattle.ap_ctl.specs.Decoding.{IsCompared, compared_net, is_wanted}
use Rattle.ap_ctl.proofs.Bits.{told}
use Rattle.ap_ctl.proofs.Built.{Gives-fewer}
use Rattle.ap_ctl.proofs.Decoded.{all_compared, compared_bits, compared_later, filter_each, wanted_among}
use Rattle.ap_ctl.proofs.decode.condition.Goals as goal

pub all_of-requires-clause-nets : goal.all_of-requires-clause-nets
all_of-requires-clause-nets c =
    let chosen : List Compared = filter (is_wanted c.args.wanted.now) c.args.made.now in
    subst (λ (l : List Wire). Each (IsBit c.args.out.now.nets) l) (sym (c.as_slice.ensures ∙ c.of-nets.ensures ∙ c.in_ok-chosen.ensures)) (compared_bits c.args.out.now c.args.word chosen (filter_each (IsCompared c.args.out.now c.args.word) (is_wanted c.args.wanted.now) c.args.made.now c.requires.made))

pub returns-clause-tells : goal.returns-clause-tells
returns-clause-tells c =
    let y = c.in_ok-hit.ensures in
    let chosen : List Compared = filter (is_wanted c.args.wanted.now) c.args.made.now in
    let each = compared_later c.args.word chosen y.gives.builds (filter_each (IsCompared c.args.out.now c.args.word) (is_wanted c.args.wanted.now) c.args.made.now c.requires.made) in
    told (λ r s. ap (list_all (is_on r)) (c.as_slice.ensures ∙ c.of-nets.ensures ∙ c.in_ok-chosen.ensures) ∙ all_compared c.all_of.new.out c.args.word r chosen s each) y.tells

pub returns-clause-gives : goal.returns-clause-gives
returns-clause-gives c =
    let y = c.in_ok-hit.ensures in
    Gives-fewer (numbers (map compared_net c.args.made.now)) (numbers c.as_slice.result.now) c.args.out.now c.all_of.new.out c.in_ok-hit.hit c.requires.fresh y.gives
    (subst (λ (l : List Wire). Each (Among (numbers (map compared_net c.args.made.now))) (numbers l)) (sym (c.as_slice.ensures ∙ c.of-nets.ensures ∙ c.in_ok-chosen.ensures)) (wanted_among c.args.wanted.now c.args.made.now))
