use Rattle.std.proofs.Common.{◌≡◌, ◌+◌, ◌-◌, ◌^◌, ◌<◌, get_or, length, sym, subst, arith}
use Rattle.std.proofs.lemmas.Option.{slice_get-get_or}
use Rattle.ap_asm.specs.Behind.{AreBehindFrom}
use Rattle.ap_asm.proofs.Behinds.{all_far, from_end, from_less, from_more}
use Rattle.ap_asm.proofs.Sizes.{few_stages}
use Rattle.ap_asm.proofs.placing.least_place.Goals as goal

pub loop-from-init : goal.loop-from-init
loop-from-init c = record {
  low = omega arith;
  high = (let near = c.requires.near in omega arith);
  within = omega arith;
  behind = λ place le. from_end c.args.design.now c.args.drain c.args.words.now c.args.transfers c.args.placed.now (length c.args.placed.now) place (omega arith);
  least = λ place le h. le;
}

pub after_placed-requires-clause-at : goal.after_placed-requires-clause-at
after_placed-requires-clause-at c =
    let lt : c.loop-from.from - 1 < length c.args.placed.now = (let within = c.loop-from.invariant.within in omega (arith, c.loop-from-test.true)) in
    c.requires.placed.near (c.loop-from.from - 1) _ (slice_get-get_or c.args.placed.now (c.loop-from.from - 1) _ lt)

pub after_placed-requires-clause-out : goal.after_placed-requires-clause-out
after_placed-requires-clause-out c =
    let lt : c.loop-from.from - 1 < length c.args.placed.now = (let within = c.loop-from.invariant.within in omega (arith, c.loop-from-test.true)) in
    c.requires.placed.outs (c.loop-from.from - 1) _ (slice_get-get_or c.args.placed.now (c.loop-from.from - 1) _ lt)

pub loop-from-preserved : goal.loop-from-preserved
loop-from-preserved c =
    let k = c.loop-from.from - 1 in
    let inv = c.loop-from.invariant in
    let lt : c.loop-from.from - 1 < length c.args.placed.now = (let within = inv.within in omega (arith, c.loop-from-test.true)) in
    let e : c.loop-from.from ≡ c.loop-from.from - 1 + 1 = omega (arith, c.loop-from-test.true) in
    let m = c.max-place.ensures in
    record {
      low = (let low = inv.low in omega arith);
      high =
          let top = c.after_placed.ensures.high in
          let near : (get_or c.args.placed.now (c.loop-from.from - 1) (record { at = 0; word = 0; out = 0 })).at < 2 ^ 20 = c.requires.placed.near (c.loop-from.from - 1) _ (slice_get-get_or c.args.placed.now (c.loop-from.from - 1) _ lt) in
          let few = few_stages c.args.design.now c.requires.clean in
          let high = inv.high in
          omega arith;
      within = (let within = inv.within in omega arith);
      behind = λ place le.
          from_more c.args.design.now c.args.drain c.args.words.now c.args.transfers c.args.placed.now (c.loop-from.from - 1) place _ (slice_get-get_or c.args.placed.now (c.loop-from.from - 1) _ lt) (c.after_placed.ensures.behind place (omega arith))
          (subst (λ n. AreBehindFrom n c.args.design.now c.args.drain c.args.words.now c.args.transfers c.args.placed.now place) e (inv.behind place (omega arith)));
      least = λ place le h.
          let later = from_less c.args.design.now c.args.drain c.args.words.now c.args.transfers c.args.placed.now (c.loop-from.from - 1) place h in
          let a = inv.least place le (subst (λ n. AreBehindFrom n c.args.design.now c.args.drain c.args.words.now c.args.transfers c.args.placed.now place) (sym e) later) in
          let b = c.after_placed.ensures.least place (h (c.loop-from.from - 1) _ (omega arith) (slice_get-get_or c.args.placed.now (c.loop-from.from - 1) _ lt)) in
          omega arith;
    }

pub returns-then-older-design-clause-behind : goal.returns-then-older-design-clause-behind
returns-then-older-design-clause-behind c = λ place le.
    let inv = c.loop-from.invariant in
    let lt : c.loop-from.from - 1 < length c.args.placed.now = (let within = inv.within in omega (arith, c.loop-from-test.true)) in
    let e : c.loop-from.from ≡ c.loop-from.from - 1 + 1 = omega (arith, c.loop-from-test.true) in
    all_far c.args.design.now c.requires.clean c.args.drain c.args.words.now c.args.transfers c.args.placed.now (c.loop-from.from - 1) c.args.end place _ c.requires.placed (slice_get-get_or c.args.placed.now (c.loop-from.from - 1) _ lt) c.if-older-design.true
    (let low = inv.low in let first = c.requires.first in omega arith)
    (subst (λ n. AreBehindFrom n c.args.design.now c.args.drain c.args.words.now c.args.transfers c.args.placed.now place) e (inv.behind place le))

pub returns-then-older-design-clause-least : goal.returns-then-older-design-clause-least
returns-then-older-design-clause-least c = λ place le h. c.loop-from.invariant.least place le (λ j older low at. h j older (omega arith) at)

pub returns-clause-behind : goal.returns-clause-behind
returns-clause-behind c = λ place le.
    let z : c.loop-from.from ≡ 0 = omega (arith, c.loop-from-test.false) in
    subst (λ n. AreBehindFrom n c.args.design.now c.args.drain c.args.words.now c.args.transfers c.args.placed.now place) z (c.loop-from.invariant.behind place le)
