use Rattle.std.proofs.Common.{◌≡◌, ◌+◌, ◌%◌, ◌^◌, [], ◌∷◌, refl, sym, ap, ◌∙◌, inl, inr, arith}
use Rattle.std.proofs.Math.Nat.{add-mod-mod}
use Rattle.ap_net.specs.declared.cell.Cell.TheVariants as cell
use Rattle.ap_net.specs.declared.cell.TwoOp.TheVariants as op
use Rattle.ap_net.proofs.Laws.{IsNet-Makes, settled_before}
use Rattle.ap_stage.proofs.Wired.{wiring_after, wiring_fewer, wiring_made}
use Rattle.ap_stage.proofs.source.link_net.Goals as goal

pub make-requires-clause-fits : goal.make-requires-clause-fits
make-requires-clause-fits c =
    let step = c.in_ok-step.ensures in
    (IsNet-Makes _ _ c.args.place step.wiring.makes c.requires.place, step.carries.net, sym step.carries.wide, refl)

pub returns-clause-carries : goal.returns-clause-carries
returns-clause-carries c =
    let step = c.in_ok-step.ensures in
    let link = c.in_ok-link.ensures in
    record {
      net = link.carries.net;
      wide = link.carries.wide;
      means = record {
        holds = λ r s.
            let is = step.carries.means.holds r (settled_before link.makes.adds.extends r s) ∙ c.step_of.ensures in
            let p = r.read c.args.place.number in
            let sum : p + (1 + c.args.slots) ≡ p + 1 + c.args.slots = omega arith in
            link.carries.means.holds r s ∙ ap (λ k. (p + k) % 2 ^ c.args.place.width) is ∙ add-mod-mod p (1 + c.args.slots) (2 ^ c.args.place.width) ∙ ap (λ k. k % 2 ^ c.args.place.width) sum;
      };
    }

pub returns-clause-wiring : goal.returns-clause-wiring
returns-clause-wiring c =
    let link = c.in_ok-link.ensures in
    wiring_after (c.args.place.number ∷ []) (c.args.place.number ∷ c.in_ok-step.step.number ∷ []) _ _ _ c.in_ok-step.step c.in_ok-link.link
    (wiring_fewer (c.args.place.number ∷ []) [] _ _ _ c.in_ok-step.ensures.wiring tt)
    (wiring_made _ _ _ (cell.Two op.Add c.args.place c.in_ok-step.step) c.in_ok-link.link link.makes link.reads link.ok link.wire link.net.0 refl) (inr (inl refl), (inl refl, tt))
