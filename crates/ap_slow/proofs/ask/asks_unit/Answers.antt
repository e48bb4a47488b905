use Rattle.std.proofs.Common.{◌∷◌, [], List, ℕ, inl, refl, sym, ap, subst, ◌∙◌}
use Rattle.std.specs.Prelude.{◌&&◌}
use Rattle.std.specs.List.{AllByRecursion as Each, list_any}
use Rattle.ap_net.specs.Pending.{Among}
use Rattle.ap_net.specs.Ready.{numbers}
use Rattle.ap_net.specs.declared.cell.Wire.{Wire}
use Rattle.ap_ctl.specs.Building.{IsBit, is_on}
use Rattle.ap_ctl.proofs.Bits.{on_of, told}
use Rattle.ap_ctl.proofs.Built.{Gives-fewer, Gives-joined, IsBit-Builds, settled_builds}
use Rattle.ap_slow.proofs.Users.{users_among, users_each}
use Rattle.ap_slow.proofs.ask.asks_unit.Goals as goal

pub any_of-requires-clause-nets : goal.any_of-requires-clause-nets
any_of-requires-clause-nets c =
    subst (Each (IsBit c.args.out.now.nets)) (sym (c.as_slice.ensures ∙ c.in_ok-users.ensures)) (users_each (IsBit c.args.out.now.nets) c.args.stage c.args.unit c.args.instrs.now c.args.conditions.now c.requires.conditions)

pub both-requires-clause-a : goal.both-requires-clause-a
both-requires-clause-a c = IsBit-Builds c.in_ok-any.ensures.gives.builds c.args.valid c.requires.valid

pub returns-clause-tells : goal.returns-clause-tells
returns-clause-tells c =
    told (λ r s. ap (λ b. is_on r c.args.valid && b) (on_of c.in_ok-any.ensures.tells r (settled_builds c.in_ok-asks.ensures.gives.builds r s) ∙ ap (list_any (is_on r)) (c.as_slice.ensures ∙ c.in_ok-users.ensures)))
    c.in_ok-asks.ensures.tells

pub returns-clause-gives : goal.returns-clause-gives
returns-clause-gives c =
    let from : List ℕ = c.args.valid.number ∷ numbers c.args.conditions.now in
    let among : Each (Among from) (numbers c.as_slice.result.now) =
    subst (λ (l : List Wire). Each (Among from) (numbers l)) (sym (c.as_slice.ensures ∙ c.in_ok-users.ensures)) (users_among c.args.stage c.args.unit c.args.valid.number c.args.instrs.now c.args.conditions.now) in
    let first = Gives-fewer from (numbers c.as_slice.result.now) _ _ c.in_ok-any.any c.requires.fresh c.in_ok-any.ensures.gives among in
    Gives-joined from (c.args.valid.number ∷ c.in_ok-any.any.number ∷ []) _ _ _ c.in_ok-asks.asks first.builds c.in_ok-asks.ensures.gives (inl (inl refl), (first.result, tt))
