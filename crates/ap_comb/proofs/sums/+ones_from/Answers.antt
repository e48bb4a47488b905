use Rattle.std.proofs.Common.{◌≤◌, ◌/◌, ◌∙◌, arith, rules, ℕ, List, [], ◌∷◌, refl, inl}
use Rattle.ap_net.proofs.Laws.{IsNet-Makes, Makes-trans, laws, IsFrom-more, Yields-made, Yields-after}
use Rattle.ap_comb.proofs.BitCounts.{halves}
use Rattle.ap_comb.proofs.sums.+ones_from.Goals as goal

pub returns-then-count-eq1-clause-value : goal.returns-then-count-eq1-clause-value
returns-then-count-eq1-clause-value t c = rw c.if-count-eq1.true c.wide_bit.ensures.value

pub returns-clause-value : goal.returns-clause-value
returns-clause-value t c = λ read s.
    let sum = c.in_ok-sum.ensures.value read s in
    let upper = c.in_ok-upper.ensures.value read sum.0 in
    let lower = c.in_ok-lower.ensures.value read upper.0 in
    let within : c.args.count / 2 ≤ c.args.count = omega arith in
    (lower.0, sum.1 ∙ rw (lower.1, upper.1) (halves (read c.args.x.number) c.args.low (c.args.count / 2) c.args.count c.args.width within c.requires.room))

pub returns-clause-makes : goal.returns-clause-makes
returns-clause-makes t c = Makes-trans _ _ _ c.in_ok-lower.ensures.makes (Makes-trans _ _ _ c.in_ok-upper.ensures.makes c.in_ok-sum.ensures.makes)

pub ones_from-requires-2 : goal.ones_from-requires-2
ones_from-requires-2 t c =
    let fresh = c.in_ok-lower.ensures.makes.fresh c.requires.fresh in
    let x = IsNet-Makes _ _ _ c.in_ok-lower.ensures.makes c.requires.x in
    search rules

pub make-requires-clause-fits : goal.make-requires-clause-fits
make-requires-clause-fits t c = let lower' = c.in_ok-lower.ensures in let upper' = c.in_ok-upper.ensures in search (rules, laws)

pub returns-clause-reads : goal.returns-clause-reads
returns-clause-reads t c =
    let from : List ℕ = c.args.x.number ∷ [] in
    let lower = c.in_ok-lower.ensures.reads in
    let upper = c.in_ok-upper.ensures.reads in
    let sum = c.in_ok-sum.ensures in
    let second = Yields-after from from _ _ _ _ lower.reads upper (inl (inl refl), tt) in
    Yields-after from (c.in_ok-lower.lower.number ∷ c.in_ok-upper.upper.number ∷ []) _ _ _ _ second.reads (Yields-made _ _ _ _ _ sum.reads sum.wire sum.net.0)
    (IsFrom-more from c.args.out.now _ _ _ (upper.reads).extends lower.result, (second.result, tt))
