use Rattle.std.proofs.Common.{◌≡◌, ◌+◌, ◌-◌, ◌/◌, ◌%◌, ◌^◌, ◌<◌, refl, sym, ap, subst, ◌∙◌, inl, arith}
use Rattle.std.proofs.Math.Nat.{div-one, mod-eq_of_lt}
use Rattle.ap_stage.proofs.Wired.{wiring_same}
use Rattle.ap_stage.proofs.slot.low_bits.Goals as goal

pub sliced-requires-clause-within : goal.sliced-requires-clause-within
sliced-requires-clause-within c = let low = c.requires.low in let room = c.requires.room in omega arith

pub returns-then-width-net-clause-carries : goal.returns-then-width-net-clause-carries
returns-then-width-net-clause-carries c = record {
  net = c.requires.net;
  wide = sym c.if-width-net.true;
  means = record {
    holds = λ r s.
        sym (mod-eq_of_lt (subst (λ k. r.read c.args.net.number < 2 ^ k) (sym c.if-width-net.true) (s.own.fits c.args.net.number c.args.net.width c.requires.net.declared)));
  };
}

pub returns-then-width-net-clause-wiring : goal.returns-then-width-net-clause-wiring
returns-then-width-net-clause-wiring c = wiring_same _ _ c.args.net (inl refl)

pub returns-clause-carries : goal.returns-clause-carries
returns-clause-carries c =
    let low = c.requires.low in
    let bits = c.in_ok-bits.ensures.carries in
    let same : c.args.width - 1 - 0 + 1 ≡ c.args.width = omega arith in
    record {
      net = bits.net;
      wide = bits.wide ∙ same;
      means = record { holds = λ r s. bits.means.holds r s ∙ ap (λ k. (r.read c.args.net.number / 2 ^ 0) % 2 ^ k) same ∙ ap (λ k. k % 2 ^ c.args.width) (div-one (r.read c.args.net.number)) };
    }
