use Rattle.std.proofs.Common.{◌≡◌, ◌+◌, ◌/◌, ◌==◌, [], ◌∷◌, refl, sym, ◌∙◌, inl, inr, arith}
use Rattle.ap_net.proofs.Laws.{IsNet-Makes, Makes-trans, settled_before}
use Rattle.ap_stage.proofs.Choosing.{bit_of}
use Rattle.ap_stage.proofs.Wired.{one_of_bit, ones_more, ones_twice, wiring_after, wiring_same}
use Rattle.ap_stage.proofs.wiring.+repeated.Goals as goal

pub returns-then-count-eq1-clause-carries : goal.returns-then-count-eq1-clause-carries
returns-then-count-eq1-clause-carries t c =
    let one : c.args.count ≡ 1 = omega arith in
    record {
      net = c.requires.bit;
      wide = c.requires.one_bit ∙ sym one;
      means = record { holds = λ r s. rw one (one_of_bit (r.read c.args.bit.number) (bit_of _ c.args.bit r s c.requires.bit c.requires.one_bit)) };
    }

pub returns-then-count-eq1-clause-wiring : goal.returns-then-count-eq1-clause-wiring
returns-then-count-eq1-clause-wiring t c = wiring_same _ _ c.args.bit (inl refl)

pub joined-requires-clause-a : goal.joined-requires-clause-a
joined-requires-clause-a t c = c.in_ok-half.ensures.carries.net

pub joined-requires-clause-b : goal.joined-requires-clause-b
joined-requires-clause-b t c = c.in_ok-half.ensures.carries.net

pub joined-requires-clause-high : goal.joined-requires-clause-high
joined-requires-clause-high t c = let wide = c.in_ok-half.ensures.carries.wide in let high = c.requires.high in omega arith

pub returns-then-odd-eq0-clause-carries : goal.returns-then-odd-eq0-clause-carries
returns-then-odd-eq0-clause-carries t c =
    let half = c.in_ok-half.ensures in
    let both = c.in_ok-both.ensures in
    let wide = half.carries.wide in
    let all : c.args.count / 2 + c.args.count / 2 ≡ c.args.count = omega arith in
    record {
      net = both.carries.net;
      wide = both.carries.wide ∙ omega arith;
      means = record {
        holds = λ r s.
            ones_twice (r.read c.args.bit.number == 1) (c.args.count / 2) c.args.count c.in_ok-half.half.width (r.read c.in_ok-half.half.number) _ (half.carries.means.holds r (settled_before both.wiring.makes.adds.extends r s)) wide (both.carries.means.holds r s) all;
      };
    }

pub returns-then-odd-eq0-clause-wiring : goal.returns-then-odd-eq0-clause-wiring
returns-then-odd-eq0-clause-wiring t c =
    wiring_after (c.args.bit.number ∷ []) (c.in_ok-half.half.number ∷ c.in_ok-half.half.number ∷ []) _ _ _ c.in_ok-half.half c.in_ok-both.both c.in_ok-half.ensures.wiring c.in_ok-both.ensures.wiring (inl refl, (inl refl, tt))

pub joined-requires-2-clause-a : goal.joined-requires-2-clause-a
joined-requires-2-clause-a t c = c.in_ok-both.ensures.carries.net

pub joined-requires-2-clause-b : goal.joined-requires-2-clause-b
joined-requires-2-clause-b t c = IsNet-Makes _ _ c.args.bit (Makes-trans _ _ _ c.in_ok-half.ensures.wiring.makes c.in_ok-both.ensures.wiring.makes) c.requires.bit

pub joined-requires-2-clause-high : goal.joined-requires-2-clause-high
joined-requires-2-clause-high t c =
    let wide = c.in_ok-half.ensures.carries.wide in
    let long = c.in_ok-both.ensures.carries.wide in
    let one = c.requires.one_bit in
    let high = c.requires.high in
    omega arith

pub returns-clause-carries : goal.returns-clause-carries
returns-clause-carries t c =
    let half = c.in_ok-half.ensures in
    let both = c.in_ok-both.ensures in
    let all = c.in_ok-all.ensures in
    let wide = half.carries.wide in
    let long = both.carries.wide in
    let one = c.requires.one_bit in
    let sum : c.args.count / 2 + c.args.count / 2 + 1 ≡ c.args.count = omega arith in
    record {
      net = all.carries.net;
      wide = all.carries.wide ∙ omega arith;
      means = record {
        holds = λ r s.
            let before = settled_before all.wiring.makes.adds.extends r s in
            let first = settled_before both.wiring.makes.adds.extends r before in
            let start = settled_before half.wiring.makes.adds.extends r first in
            ones_more (r.read c.args.bit.number == 1) (c.args.count / 2 + c.args.count / 2) c.args.count c.args.bit.width (r.read c.in_ok-both.both.number) (r.read c.args.bit.number) _
            (ones_twice (r.read c.args.bit.number == 1) (c.args.count / 2) (c.args.count / 2 + c.args.count / 2) c.in_ok-half.half.width (r.read c.in_ok-half.half.number) _ (half.carries.means.holds r first) wide (both.carries.means.holds r before) refl)
            (one_of_bit (r.read c.args.bit.number) (bit_of _ c.args.bit r start c.requires.bit one)) one (all.carries.means.holds r s) sum;
      };
    }

pub returns-clause-wiring : goal.returns-clause-wiring
returns-clause-wiring t c =
    wiring_after (c.args.bit.number ∷ []) (c.in_ok-both.both.number ∷ c.args.bit.number ∷ []) _ _ _ c.in_ok-both.both c.in_ok-all.all
    (wiring_after (c.args.bit.number ∷ []) (c.in_ok-half.half.number ∷ c.in_ok-half.half.number ∷ []) _ _ _ c.in_ok-half.half c.in_ok-both.both c.in_ok-half.ensures.wiring c.in_ok-both.ensures.wiring (inl refl, (inl refl, tt)))
    c.in_ok-all.ensures.wiring (inl refl, (inr (inl refl), tt))
