use Rattle.std.proofs.Common.{◌∙◌, refl, rules, ℕ, List, [], ◌∷◌, inl}
use Rattle.ap_net.proofs.Laws.{Makes-trans, laws, Yields-made, Yields-after}
use Rattle.ap_comb.proofs.leading.or_above.Goals as goal

pub returns-clause-value : goal.returns-clause-value
returns-clause-value c = λ read s.
    let either = c.in_ok-either.ensures.value read s in
    let lowered = c.in_ok-lowered.ensures.value read either.0 in
    let above = c.in_ok-above.ensures.value read lowered.0 in
    (above.0, either.1 ∙ rw (lowered.1, above.1) refl)

pub returns-clause-makes : goal.returns-clause-makes
returns-clause-makes c = Makes-trans _ _ _ c.in_ok-above.ensures.makes (Makes-trans _ _ _ c.in_ok-lowered.ensures.makes c.in_ok-either.ensures.makes)

pub make-requires-clause-fits : goal.make-requires-clause-fits
make-requires-clause-fits c = let above' = c.in_ok-above.ensures in let lowered' = c.in_ok-lowered.ensures in search (rules, laws)

pub returns-clause-reads : goal.returns-clause-reads
returns-clause-reads c =
    let from : List ℕ = c.args.x.number ∷ [] in
    let above = c.in_ok-above.ensures.reads in
    let either = c.in_ok-either.ensures in
    let lowered = Yields-after from (c.in_ok-above.above.number ∷ []) _ _ _ _ above.reads c.in_ok-lowered.ensures.reads (above.result, tt) in
    Yields-after from (c.args.x.number ∷ c.in_ok-lowered.lowered.number ∷ []) _ _ _ _ lowered.reads (Yields-made _ _ _ _ _ either.reads either.wire either.net.0) (inl (inl refl), (lowered.result, tt))
