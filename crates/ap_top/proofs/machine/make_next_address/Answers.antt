use Rattle.std.proofs.Common.{◌∙◌, ◌≤◌, ◌^◌, arith, refl}
use Rattle.std.proofs.Math.Nat.{pow-le-pow_right}
use Rattle.ap_net.proofs.Laws.{Makes-trans}
use Rattle.ap_top.proofs.machine.make_next_address.Goals as goal

pub make-requires-clause-fits : goal.make-requires-clause-fits
make-requires-clause-fits c = let up : 2 ^ 1 ≤ 2 ^ c.args.pc.width = pow-le-pow_right (omega arith) c.requires.low in omega arith

pub returns-clause-value : goal.returns-clause-value
returns-clause-value c = λ read s.
    let two = c.in_ok-after.ensures.value read s in
    let one = c.in_ok-one.ensures.value read two.0 in
    (one.0, two.1 ∙ rw one.1 refl)

pub returns-clause-makes : goal.returns-clause-makes
returns-clause-makes c = Makes-trans _ _ _ c.in_ok-one.ensures.makes c.in_ok-after.ensures.makes
