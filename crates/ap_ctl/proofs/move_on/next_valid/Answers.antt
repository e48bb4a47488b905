use Rattle.std.proofs.Common.{◌≡◌, ◌<◌, ◌+◌, ◌-◌, ◌∷◌, [], ℕ, List, length, get_or, refl, sym, ap, ◌∙◌, arith, inl, length-append}
use Rattle.std.specs.Prelude.{if◌then◌else◌}
use Rattle.ap_net.specs.declared.cell.Wire.{Wire}
use Rattle.ap_net.specs.Pending.{Among}
use Rattle.ap_ctl.specs.Building.{IsBit, Tells, is_on}
use Rattle.ap_ctl.specs.Moves.{coming_of, is_on_at, next_numbers, next_of}
use Rattle.ap_ctl.proofs.Beside.{EachFrom-push, EachFrom-weaker, each_index, no_wire}
use Rattle.ap_ctl.proofs.Bits.{told}
use Rattle.ap_ctl.proofs.Built.{Builds-refl, GivesEach-push, IsBit-Builds, Tells-Builds, from_these}
use Rattle.ap_ctl.proofs.Firing.{next_among, next_valid_among, on_at, one_has}
use Rattle.ap_ctl.proofs.move_on.next_valid.Goals as goal

pub loop-place-init : goal.loop-place-init
loop-place-init c = rw c.new-nets.ensures (record { long = refl; tells = tt; gives = record { builds = Builds-refl _ c.args.out.now c.requires.fresh; results = tt } })

pub chosen-requires : goal.chosen-requires
chosen-requires c =
    let p = c.loop-place.invariant.gives.builds in
    let inside : c.loop-place.place < length c.args.valid.now = omega arith in
    record {
      fresh = p.fresh;
      s = IsBit-Builds p c.args.gates.hold c.requires.hold;
      a = IsBit-Builds p (get_or c.args.valid.now c.loop-place.place no_wire) (each_index (IsBit c.args.out.now.nets) c.args.valid.now c.loop-place.place no_wire c.requires.valid inside);
      b = IsBit-Builds p c.coming-from.result (one_has (IsBit c.args.out.now.nets) (c.args.gates.goes ∷ c.args.gates.lives ∷ c.args.fires.now) c.coming-from.result (c.requires.goes, (c.requires.lives, c.requires.fires)) c.coming-from.ensures.one);
    }

pub loop-place-preserved : goal.loop-place-preserved
loop-place-preserved c =
    let h = c.loop-place.invariant in
    let y = c.in_ok-next.ensures in
    let design = c.args.design.now in
    let g = c.args.gates in
    let valid : List Wire = c.args.valid.now in
    let fires : List Wire = c.args.fires.now in
    let place = c.loop-place.place in
    let inside : place < length valid = omega arith in
    let from : List ℕ = next_numbers g valid fires in
    let same : place ≡ 1 + length c.loop-place.nets - 1 = omega (arith, h.long) in
    let next : Tells c.chosen.new.out (next_of design g valid fires (1 + length c.loop-place.nets)) c.in_ok-next.next =
    told (λ r s. ap (λ b. if is_on r g.hold then b else is_on r c.coming-from.result) (sym (on_at r valid place no_wire inside) ∙ ap (is_on_at r valid) same)
    ∙ ap (λ b. if is_on r g.hold then is_on_at r valid (1 + length c.loop-place.nets - 1) else b) (c.coming-from.ensures.value r ∙ ap (λ n. coming_of design g fires n r) same)) y.tells in
    rw c.in_ok-push.ensures.ok (record {
      long = length-append c.loop-place.nets (c.in_ok-next.next ∷ []) ∙ ap (λ n. n + 1) h.long;
      tells = EachFrom-push (λ stage. Tells c.chosen.new.out (next_of design g valid fires stage)) 1 c.loop-place.nets c.in_ok-next.next
          (EachFrom-weaker (λ stage. Tells c.loop-place.out (next_of design g valid fires stage)) (λ stage. Tells c.chosen.new.out (next_of design g valid fires stage)) (λ stage w t. Tells-Builds y.gives.builds t) 1 c.loop-place.nets h.tells) next;
      gives = GivesEach-push from (g.hold.number ∷ (get_or valid place no_wire).number ∷ c.coming-from.result.number ∷ []) c.args.out.now c.loop-place.out c.chosen.new.out c.loop-place.nets c.in_ok-next.next h.gives y.gives
          (from_these from c.args.out.now c.loop-place.out (g.hold.number ∷ (get_or valid place no_wire).number ∷ c.coming-from.result.number ∷ []) (
            inl refl,
            (
              each_index (λ (w : Wire). Among from w.number) valid place no_wire (next_valid_among g valid fires) inside,
              (one_has (λ (w : Wire). Among from w.number) (g.goes ∷ g.lives ∷ fires) c.coming-from.result (next_among g valid fires) c.coming-from.ensures.one, tt),
            ),
          ));
    })
