use Rattle.std.proofs.Common.{◌≡◌, ◌<◌, ◌+◌, ◌-◌, ◌∷◌, [], ℕ, List, length, get_or, refl, sym, ap, ◌∙◌, arith, inl, inr, length-append}
use Rattle.ap_net.specs.declared.cell.Wire.{Wire}
use Rattle.ap_net.specs.Pending.{Among}
use Rattle.ap_net.specs.Ready.{numbers}
use Rattle.ap_net.proofs.Laws.{among_index}
use Rattle.ap_ctl.specs.Building.{IsBit, Tells, is_on}
use Rattle.ap_ctl.specs.Moves.{fire_of, is_on_at, open_gate}
use Rattle.ap_ctl.proofs.Beside.{EachFrom-push, EachFrom-weaker, each_index, no_wire}
use Rattle.ap_ctl.proofs.Bits.{joined_all, told}
use Rattle.ap_ctl.proofs.Built.{Builds-refl, GivesEach-push, IsBit-Builds, Tells-Builds, from_these}
use Rattle.ap_ctl.proofs.Firing.{on_at, open_one}
use Rattle.ap_ctl.proofs.move_on.fires.Goals as goal

pub loop-place-init : goal.loop-place-init
loop-place-init c = rw c.new-nets.ensures (record { long = refl; tells = tt; gives = record { builds = Builds-refl _ c.args.out.now c.requires.fresh; results = tt } })

pub both-requires : goal.both-requires
both-requires c =
    let p = c.loop-place.invariant.gives.builds in
    let inside : c.loop-place.place < length c.args.valid.now = omega arith in
    record {
      fresh = p.fresh;
      a = IsBit-Builds p (get_or c.args.valid.now c.loop-place.place no_wire) (each_index (IsBit c.args.out.now.nets) c.args.valid.now c.loop-place.place no_wire c.requires.valid inside);
      b = rw c.passing-open.ensures (IsBit-Builds p (open_gate c.args.design.now c.args.gates (c.loop-place.place + 1)) (open_one (IsBit c.args.out.now.nets) c.args.design.now c.args.gates (c.loop-place.place + 1) c.requires.lives c.requires.goes));
    }

pub loop-place-preserved : goal.loop-place-preserved
loop-place-preserved c =
    let h = c.loop-place.invariant in
    let y = c.in_ok-fire.ensures in
    let design = c.args.design.now in
    let g = c.args.gates in
    let valid : List Wire = c.args.valid.now in
    let place = c.loop-place.place in
    let inside : place < length valid = omega arith in
    let from : List ℕ = g.goes.number ∷ g.lives.number ∷ numbers valid in
    let same : 1 + length c.loop-place.nets - 1 ≡ place = omega (arith, h.long) in
    let stage : place + 1 ≡ 1 + length c.loop-place.nets = omega (arith, h.long) in
    let fire : Tells c.both.new.out (fire_of design g valid (1 + length c.loop-place.nets)) c.in_ok-fire.fire =
    told (λ r s. joined_all (sym (on_at r valid place no_wire inside) ∙ ap (is_on_at r valid) (sym same)) (ap (is_on r) (c.passing-open.ensures ∙ ap (open_gate design g) stage))) y.tells in
    rw c.in_ok-push.ensures.ok (record {
      long = length-append c.loop-place.nets (c.in_ok-fire.fire ∷ []) ∙ ap (λ n. n + 1) h.long;
      tells = EachFrom-push (λ stage. Tells c.both.new.out (fire_of design g valid stage)) 1 c.loop-place.nets c.in_ok-fire.fire
          (EachFrom-weaker (λ stage. Tells c.loop-place.out (fire_of design g valid stage)) (λ stage. Tells c.both.new.out (fire_of design g valid stage)) (λ stage w t. Tells-Builds y.gives.builds t) 1 c.loop-place.nets h.tells) fire;
      gives = GivesEach-push from ((get_or valid place no_wire).number ∷ c.passing-open.result.number ∷ []) c.args.out.now c.loop-place.out c.both.new.out c.loop-place.nets c.in_ok-fire.fire h.gives y.gives
          (from_these from c.args.out.now c.loop-place.out ((get_or valid place no_wire).number ∷ c.passing-open.result.number ∷ []) (inr (inr (among_index valid place no_wire inside)), (rw c.passing-open.ensures (open_one (λ (w : Wire). Among from w.number) design g (place + 1) (inr (inl refl)) (inl refl)), tt)));
    })
