use Rattle.std.proofs.Common.{◌≡◌, ◌<◌, ◌-◌, ◌∷◌, suc, length, get_or, sym, ap, ◌∙◌, arith, List}
use Rattle.std.specs.Prelude.{Contains}
use Rattle.ap_net.specs.declared.cell.Wire.{Wire}
use Rattle.ap_ctl.specs.Building.{is_on}
use Rattle.ap_ctl.specs.Moves.{coming_of}
use Rattle.ap_ctl.proofs.Beside.{no_wire}
use Rattle.ap_ctl.proofs.Firing.{contains_first, contains_index, contains_later, on_at, open_one}
use Rattle.ap_ctl.proofs.move_on.coming.Goals as goal

pub returns-then-place-eq0-clause-one : goal.returns-then-place-eq0-clause-one
returns-then-place-eq0-clause-one c =
    let g = c.args.gates in
    let rest : List Wire = g.lives ∷ c.args.fires.now in
    rw c.passing.ensures (open_one (Contains (g.goes ∷ rest)) c.args.design.now g 0 (contains_later g.goes rest g.lives (contains_first g.lives c.args.fires.now)) (contains_first g.goes rest))

pub returns-then-place-eq0-clause-value : goal.returns-then-place-eq0-clause-value
returns-then-place-eq0-clause-value c = λ r.
    let none : c.args.place ≡ 0 = omega arith in
    ap (is_on r) c.passing.ensures ∙ ap (λ n. coming_of c.args.design.now c.args.gates c.args.fires.now n r) (sym none)

pub returns-clause-one : goal.returns-clause-one
returns-clause-one c =
    let inside : c.args.place - 1 < length c.args.fires.now = omega arith in
    let g = c.args.gates in
    let x : Wire = get_or c.args.fires.now (c.args.place - 1) no_wire in
    contains_later g.goes (g.lives ∷ c.args.fires.now) x (contains_later g.lives c.args.fires.now x (contains_index c.args.fires.now (c.args.place - 1) no_wire inside))

pub returns-clause-value : goal.returns-clause-value
returns-clause-value c = λ r.
    let inside : c.args.place - 1 < length c.args.fires.now = omega arith in
    let next : suc (c.args.place - 1) ≡ c.args.place = omega arith in
    sym (on_at r c.args.fires.now (c.args.place - 1) no_wire inside) ∙ ap (λ n. coming_of c.args.design.now c.args.gates c.args.fires.now n r) next
