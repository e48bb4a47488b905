use Rattle.std.proofs.Common.{◌∷◌, [], refl, inl, inr, ◌∙◌, ℕ, List, ap}
use Rattle.std.specs.Prelude.{◌&&◌, not}
use Rattle.ap_net.specs.Pending.{IsFrom}
use Rattle.ap_net.proofs.Laws.{IsFrom-more}
use Rattle.ap_ctl.specs.Building.{is_on}
use Rattle.ap_ctl.proofs.Bits.{IsBit-Tells, joined_all, on_of, told}
use Rattle.ap_ctl.proofs.Built.{Builds-refl, Gives-joined, IsBit-Builds, Tells-Builds}
use Rattle.ap_ctl.proofs.move_on.make_gates.Goals as goal

pub both-requires : goal.both-requires
both-requires c =
    let g = c.in_ok-goes.ensures in
    record { fresh = g.gives.builds.fresh; a = IsBit-Builds g.gives.builds c.args.taken c.requires.taken; b = IsBit-Tells g.tells }

pub inverse-requires-2 : goal.inverse-requires-2
inverse-requires-2 c = record { fresh = c.in_ok-kill.ensures.gives.builds.fresh; a = IsBit-Tells c.in_ok-kill.ensures.tells }

pub both-requires-2 : goal.both-requires-2
both-requires-2 c =
    let s = c.in_ok-spared.ensures in
    let k = c.in_ok-kill.ensures in
    record { fresh = s.gives.builds.fresh; a = IsBit-Tells (Tells-Builds s.gives.builds (Tells-Builds k.gives.builds c.in_ok-goes.ensures.tells)); b = IsBit-Tells s.tells }

pub returns-clause-tells : goal.returns-clause-tells
returns-clause-tells c =
    let g = c.in_ok-goes.ensures in
    let k = c.in_ok-kill.ensures in
    let s = c.in_ok-spared.ensures in
    let l = c.in_ok-lives.ensures in
    let goes = Tells-Builds l.gives.builds (Tells-Builds s.gives.builds (Tells-Builds k.gives.builds g.tells)) in
    let kill = Tells-Builds l.gives.builds (Tells-Builds s.gives.builds k.tells) in
    let spared = Tells-Builds l.gives.builds s.tells in
    let killed = told (λ r h. ap (λ b. is_on r c.args.taken && b) (on_of goes r h)) kill in
    record {
      goes = goes;
      kill = killed;
      lives = told (λ r h. joined_all (on_of goes r h) (on_of spared r h ∙ ap not (on_of killed r h))) l.tells;
    }

pub returns-clause-gives : goal.returns-clause-gives
returns-clause-gives c =
    let from : List ℕ = c.args.hold.number ∷ c.args.taken.number ∷ [] in
    let a = c.args.out.now in
    let g = Gives-joined from (c.args.hold.number ∷ []) a a c.inverse.new.out c.in_ok-goes.goes (Builds-refl from a c.requires.fresh) c.in_ok-goes.ensures.gives (inl (inl refl), tt) in
    let k = Gives-joined from (c.args.taken.number ∷ c.in_ok-goes.goes.number ∷ []) a c.inverse.new.out c.both.new.out c.in_ok-kill.kill g.builds c.in_ok-kill.ensures.gives (inl (inr (inl refl)), (g.result, tt)) in
    let s = Gives-joined from (c.in_ok-kill.kill.number ∷ []) a c.both.new.out c.inverse-2.new.out c.in_ok-spared.spared k.builds c.in_ok-spared.ensures.gives (k.result, tt) in
    let goes2 : IsFrom from a c.inverse-2.new.out c.in_ok-goes.goes.number =
    IsFrom-more from a c.both.new.out c.inverse-2.new.out c.in_ok-goes.goes.number c.in_ok-spared.ensures.gives.builds.reads.extends (IsFrom-more from a c.inverse.new.out c.both.new.out c.in_ok-goes.goes.number c.in_ok-kill.ensures.gives.builds.reads.extends g.result) in
    let l = Gives-joined from (c.in_ok-goes.goes.number ∷ c.in_ok-spared.spared.number ∷ []) a c.inverse-2.new.out c.both-2.new.out c.in_ok-lives.lives s.builds c.in_ok-lives.ensures.gives (goes2, (s.result, tt)) in
    let last = c.in_ok-lives.ensures.gives.builds.reads.extends in
    record {
      builds = l.builds;
      results = (
        IsFrom-more from a c.inverse-2.new.out c.both-2.new.out c.in_ok-goes.goes.number last goes2,
        (
          IsFrom-more from a c.inverse-2.new.out c.both-2.new.out c.in_ok-kill.kill.number last (IsFrom-more from a c.both.new.out c.inverse-2.new.out c.in_ok-kill.kill.number c.in_ok-spared.ensures.gives.builds.reads.extends k.result),
          (l.result, tt),
        ),
      );
    }
