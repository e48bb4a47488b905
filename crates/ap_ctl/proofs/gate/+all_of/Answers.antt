use Rattle.std.proofs.Common.{◌-◌, ◌/◌, length, take, drop, ◌∙◌, arith, rules, refl, List, []}
use Rattle.ap_net.specs.declared.cell.Cell.TheVariants as cell
use Rattle.ap_net.specs.declared.cell.Wire.{Wire}
use Rattle.ap_net.specs.Pending.{Among}
use Rattle.ap_net.specs.Ready.{numbers}
use Rattle.ap_ctl.specs.Building.{IsBit, is_on}
use Rattle.ap_ctl.proofs.Beside.{no_wire}
use Rattle.ap_ctl.proofs.Bits.{IsBit-Tells, Each-drop, Each-take, on_of, one_all, told, all_halves, joined_all}
use Rattle.ap_ctl.proofs.Built.{IsBit-Builds, EachBit-Builds, Gives-fewer, Gives-made, Tells-Builds, among_nets, among_some, one_gives, pair_gives}
use Rattle.ap_ctl.proofs.gate.+all_of.Goals as goal

pub all_of-requires-2 : goal.all_of-requires-2
all_of-requires-2 t c =
    let middle = length c.args.nets.now / 2 in
    let p = c.in_ok-first.ensures.gives.builds in
    (search rules, (p.fresh, EachBit-Builds p (take (length c.args.nets.now - middle) (drop middle c.args.nets.now)) (Each-take (IsBit c.args.out.now.nets) (length c.args.nets.now - middle) (drop middle c.args.nets.now) (Each-drop (IsBit c.args.out.now.nets) middle c.args.nets.now c.requires.nets))))

pub returns-clause-tells : goal.returns-clause-tells
returns-clause-tells t c =
    let middle = length c.args.nets.now / 2 in
    let y = c.in_ok-all.ensures in
    let second = Tells-Builds y.gives.builds c.in_ok-second.ensures.tells in
    let first = Tells-Builds y.gives.builds (Tells-Builds c.in_ok-second.ensures.gives.builds c.in_ok-first.ensures.tells) in
    told (λ r s. joined_all (on_of first r s) (on_of second r s) ∙ all_halves (is_on r) middle c.args.nets.now) y.tells

pub returns-clause-gives : goal.returns-clause-gives
returns-clause-gives t c =
    let nets : List Wire = c.args.nets.now in
    let middle = length nets / 2 in
    let P : Wire → Type 0 = λ w. Among (numbers nets) w.number in
    pair_gives (numbers nets) _ _ c.args.out.now _ _ _ c.in_ok-first.first c.in_ok-second.second c.in_ok-all.all c.requires.fresh
    c.in_ok-first.ensures.gives (among_some nets (take middle nets) (Each-take P middle nets (among_nets nets)))
    c.in_ok-second.ensures.gives (among_some nets (take (length nets - middle) (drop middle nets)) (Each-take P (length nets - middle) (drop middle nets) (Each-drop P middle nets (among_nets nets))))
    c.in_ok-all.ensures.gives

pub returns-then-nets-eq1-clause-tells : goal.returns-then-nets-eq1-clause-tells
returns-then-nets-eq1-clause-tells t c = one_all c.args.out.now c.args.nets.now no_wire (omega arith) c.requires.nets

pub returns-then-nets-eq1-clause-gives : goal.returns-then-nets-eq1-clause-gives
returns-then-nets-eq1-clause-gives t c = one_gives c.args.out.now c.args.nets.now no_wire c.requires.fresh (omega arith)

pub both-requires-clause-a : goal.both-requires-clause-a
both-requires-clause-a t c = IsBit-Builds c.in_ok-second.ensures.gives.builds c.in_ok-first.first (IsBit-Tells c.in_ok-first.ensures.tells)

pub both-requires-clause-b : goal.both-requires-clause-b
both-requires-clause-b t c = IsBit-Tells c.in_ok-second.ensures.tells

pub returns-then-is_empty-clause-gives : goal.returns-then-is_empty-clause-gives
returns-then-is_empty-clause-gives t c =
    let y = c.in_ok-on.ensures in
    Gives-fewer (numbers c.args.nets.now) [] c.args.out.now c.make.new.self c.in_ok-on.on c.requires.fresh
    (Gives-made c.args.out.now c.make.new.self 1 (cell.Const 1) c.in_ok-on.on y.ok y.wire c.requires.fresh y.makes y.reads y.net.0 tt refl) tt
