use Rattle.std.proofs.Common.{◌∙◌, refl, rules, ℕ, List, [], ◌∷◌, inl, inr}
use Rattle.ap_net.proofs.Laws.{Makes-trans, laws, IsFrom-more, Reads-refl, Yields-made, Yields-after}
use Rattle.ap_comb.proofs.levels.incoming.Goals as goal

pub returns-clause-value : goal.returns-clause-value
returns-clause-value c = λ read s.
    let chosen = c.in_ok-chosen.ensures.value read s in
    let zeros = c.in_ok-zeros.ensures.value read chosen.0 in
    let gone = c.in_ok-gone.ensures.value read zeros.0 in
    (gone.0, chosen.1 ∙ rw (gone.1, zeros.1) refl)

pub returns-clause-makes : goal.returns-clause-makes
returns-clause-makes c = Makes-trans _ _ _ c.in_ok-gone.ensures.makes (Makes-trans _ _ _ c.in_ok-zeros.ensures.makes c.in_ok-chosen.ensures.makes)

pub make-requires-2-clause-fits : goal.make-requires-2-clause-fits
make-requires-2-clause-fits c = let gone' = c.in_ok-gone.ensures in let zeros' = c.in_ok-zeros.ensures in search (rules, laws)

pub returns-clause-reads : goal.returns-clause-reads
returns-clause-reads c =
    let from : List ℕ = c.args.x.number ∷ c.args.turn.number ∷ [] in
    let zeros = c.in_ok-zeros.ensures in
    let chosen = c.in_ok-chosen.ensures in
    let first = Yields-after from (c.args.x.number ∷ []) _ _ _ _ (Reads-refl from c.args.out.now) c.in_ok-gone.ensures.reads (inl (inl refl), tt) in
    let second = Yields-after from [] _ _ _ _ first.reads (Yields-made _ _ _ _ _ zeros.reads zeros.wire zeros.net.0) tt in
    Yields-after from (c.args.turn.number ∷ c.in_ok-gone.gone.number ∷ c.in_ok-zeros.zeros.number ∷ []) _ _ _ _ second.reads (Yields-made _ _ _ _ _ chosen.reads chosen.wire chosen.net.0)
    (inl (inr (inl refl)), (IsFrom-more from c.args.out.now _ _ _ (zeros.reads).extends first.result, (second.result, tt)))
