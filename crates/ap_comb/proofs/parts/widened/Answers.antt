use Rattle.std.proofs.Common.{◌∙◌, List, ℕ, [], ◌∷◌, arith, rules, refl, inl, ◌≡◌, sym}
use Rattle.ap_net.proofs.Laws.{Makes-trans, Makes-refl, Reads-refl, Yields-made, Yields-same, Yields-after, laws, carried}
use Rattle.ap_comb.proofs.parts.widened.Goals as goal

pub returns-then-width-x-clause-makes : goal.returns-then-width-x-clause-makes
returns-then-width-x-clause-makes c = Makes-refl _

pub returns-clause-value : goal.returns-clause-value
returns-clause-value c = λ read s.
    let wide = c.in_ok-wide.ensures.value read s in
    let zeros = c.in_ok-zeros.ensures.value read wide.0 in
    (zeros.0, wide.1 ∙ rw zeros.1 (omega arith))

pub returns-clause-makes : goal.returns-clause-makes
returns-clause-makes c = Makes-trans _ _ _ c.in_ok-zeros.ensures.makes c.in_ok-wide.ensures.makes

pub make-requires-2-clause-fits : goal.make-requires-2-clause-fits
make-requires-2-clause-fits c = let zeros' = c.in_ok-zeros.ensures in search (rules, laws)

pub returns-then-width-x-clause-reads : goal.returns-then-width-x-clause-reads
returns-then-width-x-clause-reads c = Yields-same _ _ _ (inl refl)

pub returns-clause-reads : goal.returns-clause-reads
returns-clause-reads c =
    let from : List ℕ = c.args.x.number ∷ [] in
    let zeros = c.in_ok-zeros.ensures in
    let wide = c.in_ok-wide.ensures in
    let first = Yields-after from [] _ _ _ _ (Reads-refl from c.args.out.now) (Yields-made _ _ _ _ _ zeros.reads zeros.wire zeros.net.0) tt in
    Yields-after from (c.in_ok-zeros.zeros.number ∷ c.args.x.number ∷ []) _ _ _ _ first.reads (Yields-made _ _ _ _ _ wide.reads wide.wire wide.net.0) (first.result, (inl (inl refl), tt))

pub returns-then-width-x-clause-carries : goal.returns-then-width-x-clause-carries
returns-then-width-x-clause-carries c = carried c.args.out.now c.args.out.now _ (λ read y. y ≡ read c.args.x.number) _ c.requires.x (sym c.if-width-x.true) (λ read s. (s, refl))

pub returns-clause-carries : goal.returns-clause-carries
returns-clause-carries c = let wide = c.in_ok-wide.ensures in carried c.args.out.now _ _ (λ read y. y ≡ read c.args.x.number) _ wide.net.0 wide.net.1 (returns-clause-value c)
