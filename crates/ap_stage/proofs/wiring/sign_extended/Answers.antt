use Rattle.std.proofs.Common.{[], ◌∷◌, refl, sym, ◌∙◌, inl, inr, arith}
use Rattle.ap_net.proofs.Laws.{IsNet-Makes, Makes-trans, settled_before}
use Rattle.ap_stage.proofs.Wired.{sign_same, sign_value, wiring_after, wiring_same}
use Rattle.ap_stage.proofs.wiring.sign_extended.Goals as goal

pub returns-then-width-a-clause-carries : goal.returns-then-width-a-clause-carries
returns-then-width-a-clause-carries c = record { net = c.requires.a; wide = sym c.if-width-a.true; means = record { holds = λ r s. sign_same c.args.a.width c.args.width (r.read c.args.a.number) c.if-width-a.true } }

pub returns-then-width-a-clause-wiring : goal.returns-then-width-a-clause-wiring
returns-then-width-a-clause-wiring c = wiring_same _ _ c.args.a (inl refl)

pub sliced-requires-clause-within : goal.sliced-requires-clause-within
sliced-requires-clause-within c = let low = c.requires.a.low in omega arith

pub repeated-requires-clause-bit : goal.repeated-requires-clause-bit
repeated-requires-clause-bit c = c.in_ok-bit.ensures.carries.net

pub repeated-requires-clause-one_bit : goal.repeated-requires-clause-one_bit
repeated-requires-clause-one_bit c = let wide = c.in_ok-bit.ensures.carries.wide in omega arith

pub joined-requires-clause-a : goal.joined-requires-clause-a
joined-requires-clause-a c = c.in_ok-fill.ensures.carries.net

pub joined-requires-clause-b : goal.joined-requires-clause-b
joined-requires-clause-b c = IsNet-Makes _ _ c.args.a (Makes-trans _ _ _ c.in_ok-bit.ensures.wiring.makes c.in_ok-fill.ensures.wiring.makes) c.requires.a

pub joined-requires-clause-high : goal.joined-requires-clause-high
joined-requires-clause-high c = let wide = c.in_ok-fill.ensures.carries.wide in let order = c.requires.order in let high = c.requires.high in omega arith

pub returns-clause-carries : goal.returns-clause-carries
returns-clause-carries c =
    let bit = c.in_ok-bit.ensures in
    let fill = c.in_ok-fill.ensures in
    let wide = c.in_ok-wide.ensures in
    let long = fill.carries.wide in
    let order = c.requires.order in
    record {
      net = wide.carries.net;
      wide = wide.carries.wide ∙ omega arith;
      means = record {
        holds = λ r s.
            let before = settled_before wide.wiring.makes.adds.extends r s in
            let first = settled_before fill.wiring.makes.adds.extends r before in
            let start = settled_before bit.wiring.makes.adds.extends r first in
            wide.carries.means.holds r s
            ∙ sign_value c.args.a.width c.args.width (r.read c.args.a.number) (r.read c.in_ok-bit.bit.number) (r.read c.in_ok-fill.fill.number) c.requires.a.low order (start.own.fits c.args.a.number c.args.a.width c.requires.a.declared)
            (bit.carries.means.holds r first) (fill.carries.means.holds r before);
      };
    }

pub returns-clause-wiring : goal.returns-clause-wiring
returns-clause-wiring c =
    wiring_after (c.args.a.number ∷ []) (c.in_ok-fill.fill.number ∷ c.args.a.number ∷ []) _ _ _ c.in_ok-fill.fill c.in_ok-wide.wide
    (wiring_after (c.args.a.number ∷ []) (c.in_ok-bit.bit.number ∷ []) _ _ _ c.in_ok-bit.bit c.in_ok-fill.fill c.in_ok-bit.ensures.wiring c.in_ok-fill.ensures.wiring (inl refl, tt))
    c.in_ok-wide.ensures.wiring (inl refl, (inr (inl refl), tt))
