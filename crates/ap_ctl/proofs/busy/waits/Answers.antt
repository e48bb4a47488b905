use Rattle.std.proofs.Common.{◌∷◌, [], refl, inl, inr, ℕ, List}
use Rattle.ap_net.specs.Ready.{numbers}
use Rattle.ap_net.specs.Pending.{Among}
use Rattle.ap_ctl.proofs.Bits.{IsBit-Tells, joined_all, on_of, told}
use Rattle.ap_ctl.proofs.Built.{EachBit-Builds, Each-weaker, IsBit-Builds, Tells-Builds, among_all, pair_gives}
use Rattle.ap_ctl.proofs.busy.waits.Goals as goal

pub any_of-requires : goal.any_of-requires
any_of-requires c = let p = c.in_ok-waiting.ensures.gives.builds in record { fresh = p.fresh; nets = EachBit-Builds p c.args.conditions.now c.requires.conditions }

pub both-requires-2 : goal.both-requires-2
both-requires-2 c =
    let p = c.in_ok-hit.ensures.gives.builds in
    record { fresh = p.fresh; a = IsBit-Builds p c.in_ok-waiting.waiting (IsBit-Tells c.in_ok-waiting.ensures.tells); b = IsBit-Tells c.in_ok-hit.ensures.tells }

pub returns-clause-tells : goal.returns-clause-tells
returns-clause-tells c =
    let y = c.in_ok-waits.ensures in
    let hit = Tells-Builds y.gives.builds c.in_ok-hit.ensures.tells in
    let waiting = Tells-Builds y.gives.builds (Tells-Builds c.in_ok-hit.ensures.gives.builds c.in_ok-waiting.ensures.tells) in
    told (λ r s. joined_all (on_of waiting r s) (on_of hit r s)) y.tells

pub returns-clause-gives : goal.returns-clause-gives
returns-clause-gives c =
    let from : List ℕ = c.args.mwait.number ∷ c.args.valid.number ∷ numbers c.args.conditions.now in
    pair_gives from (c.args.mwait.number ∷ c.args.valid.number ∷ []) (numbers c.args.conditions.now) c.args.out.now _ _ _ c.in_ok-waiting.waiting c.in_ok-hit.hit c.in_ok-waits.waits c.requires.fresh
    c.in_ok-waiting.ensures.gives (inl refl, (inr (inl refl), tt)) c.in_ok-hit.ensures.gives (Each-weaker (Among (numbers c.args.conditions.now)) (Among from) (λ n h. inr (inr h)) (numbers c.args.conditions.now) (among_all (numbers c.args.conditions.now))) c.in_ok-waits.ensures.gives
