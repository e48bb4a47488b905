use Rattle.std.proofs.Common.{◌+◌, ◌*◌, ◌^◌, [], ◌∷◌, refl, sym, ap, ◌∙◌, inl, inr, arith}
use Rattle.ap_net.proofs.Laws.{IsNet-Makes, settled_before}
use Rattle.ap_stage.proofs.Wired.{wiring_after, wiring_fewer, wiring_same}
use Rattle.ap_stage.proofs.wiring.zero_extended.Goals as goal

pub returns-then-width-a-clause-carries : goal.returns-then-width-a-clause-carries
returns-then-width-a-clause-carries c = record { net = c.requires.a; wide = sym c.if-width-a.true; means = record { holds = λ r s. refl } }

pub returns-then-width-a-clause-wiring : goal.returns-then-width-a-clause-wiring
returns-then-width-a-clause-wiring c = wiring_same _ _ c.args.a (inl refl)

pub joined-requires-clause-a : goal.joined-requires-clause-a
joined-requires-clause-a c = c.in_ok-zeros.ensures.carries.net

pub joined-requires-clause-b : goal.joined-requires-clause-b
joined-requires-clause-b c = IsNet-Makes _ _ c.args.a c.in_ok-zeros.ensures.wiring.makes c.requires.a

pub joined-requires-clause-high : goal.joined-requires-clause-high
joined-requires-clause-high c = let wide = c.in_ok-zeros.ensures.carries.wide in let order = c.requires.order in let high = c.requires.high in omega arith

pub returns-clause-carries : goal.returns-clause-carries
returns-clause-carries c =
    let zeros = c.in_ok-zeros.ensures in
    let wide = c.in_ok-wide.ensures in
    let long = zeros.carries.wide in
    let order = c.requires.order in
    record {
      net = wide.carries.net;
      wide = wide.carries.wide ∙ omega arith;
      means = record {
        holds = λ r s.
            let none = zeros.carries.means.holds r (settled_before wide.wiring.makes.adds.extends r s) in
            wide.carries.means.holds r s ∙ ap (λ k. k * 2 ^ c.args.a.width + r.read c.args.a.number) none ∙ omega arith;
      };
    }

pub returns-clause-wiring : goal.returns-clause-wiring
returns-clause-wiring c =
    wiring_after (c.args.a.number ∷ []) (c.in_ok-zeros.zeros.number ∷ c.args.a.number ∷ []) _ _ _ c.in_ok-zeros.zeros c.in_ok-wide.wide
    (wiring_fewer (c.args.a.number ∷ []) [] _ _ _ c.in_ok-zeros.ensures.wiring tt) c.in_ok-wide.ensures.wiring (inl refl, (inr (inl refl), tt))
