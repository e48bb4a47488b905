use Rattle.std.proofs.Common.{◌∙◌, List, ℕ, [], ◌∷◌, refl, rules, inl, ◌≡◌, ◌-◌, ◌^◌}
use Rattle.ap_net.proofs.Laws.{Makes-trans, IsFrom-more, Reads-refl, Yields-made, Yields-after, laws, carried}
use Rattle.std.specs.Prelude.{◌==◌, if◌then◌else◌}
use Rattle.ap_comb.proofs.parts.repeated.Goals as goal

pub returns-clause-value : goal.returns-clause-value
returns-clause-value c = λ read s.
    let filled = c.in_ok-filled.ensures.value read s in
    let zeros = c.in_ok-zeros.ensures.value read filled.0 in
    let ones = c.in_ok-ones.ensures.value read zeros.0 in
    (ones.0, filled.1 ∙ rw (ones.1, zeros.1, c.mask.ensures) refl)

pub returns-clause-makes : goal.returns-clause-makes
returns-clause-makes c = Makes-trans _ _ _ c.in_ok-ones.ensures.makes (Makes-trans _ _ _ c.in_ok-zeros.ensures.makes c.in_ok-filled.ensures.makes)

pub make-requires-3-clause-fits : goal.make-requires-3-clause-fits
make-requires-3-clause-fits c = let ones' = c.in_ok-ones.ensures in let zeros' = c.in_ok-zeros.ensures in search (rules, laws)

pub returns-clause-reads : goal.returns-clause-reads
returns-clause-reads c =
    let from : List ℕ = c.args.bit.number ∷ [] in
    let ones = c.in_ok-ones.ensures in
    let zeros = c.in_ok-zeros.ensures in
    let filled = c.in_ok-filled.ensures in
    let first = Yields-after from [] _ _ _ _ (Reads-refl from c.args.out.now) (Yields-made _ _ _ _ _ ones.reads ones.wire ones.net.0) tt in
    let second = Yields-after from [] _ _ _ _ first.reads (Yields-made _ _ _ _ _ zeros.reads zeros.wire zeros.net.0) tt in
    Yields-after from (c.args.bit.number ∷ c.in_ok-ones.ones.number ∷ c.in_ok-zeros.zeros.number ∷ []) _ _ _ _ second.reads (Yields-made _ _ _ _ _ filled.reads filled.wire filled.net.0)
    (inl (inl refl), (IsFrom-more from c.args.out.now _ _ _ (zeros.reads).extends first.result, (second.result, tt)))

pub returns-clause-carries : goal.returns-clause-carries
returns-clause-carries c =
    let filled = c.in_ok-filled.ensures in
    carried c.args.out.now _ _ (λ read y. y ≡ (if read c.args.bit.number == 1 then 2 ^ c.args.count - 1 else 0)) _ filled.net.0 filled.net.1 (returns-clause-value c)
