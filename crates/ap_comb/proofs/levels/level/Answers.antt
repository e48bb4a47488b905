use Rattle.std.proofs.Common.{◌∙◌, refl, rules, ℕ, List, [], ◌∷◌, inl, inr}
use Rattle.ap_net.proofs.Laws.{Makes-trans, laws, Reads-refl, Yields-made, Yields-after}
use Rattle.ap_comb.specs.Moves.{inlet}
use Rattle.ap_comb.proofs.levels.level.Goals as goal

pub returns-clause-value : goal.returns-clause-value
returns-clause-value c = λ read s.
    let chosen = c.in_ok-chosen.ensures.value read s in
    let away = c.in_ok-away.ensures.value read chosen.0 in
    (away.0, chosen.1 ∙ rw away.1 refl)

pub returns-clause-makes : goal.returns-clause-makes
returns-clause-makes c = Makes-trans _ _ _ c.in_ok-away.ensures.makes c.in_ok-chosen.ensures.makes

pub make-requires-clause-fits : goal.make-requires-clause-fits
make-requires-clause-fits c = let away' = c.in_ok-away.ensures in search (rules, laws)

pub returns-clause-reads : goal.returns-clause-reads
returns-clause-reads c =
    let from : List ℕ = c.args.x.number ∷ (inlet c.args.way).number ∷ c.args.by.number ∷ [] in
    let chosen = c.in_ok-chosen.ensures in
    let away = Yields-after from (c.args.x.number ∷ (inlet c.args.way).number ∷ []) _ _ _ _ (Reads-refl from c.args.out.now) c.in_ok-away.ensures.reads (inl (inl refl), (inl (inr (inl refl)), tt)) in
    Yields-after from (c.args.by.number ∷ c.in_ok-away.away.number ∷ c.args.x.number ∷ []) _ _ _ _ away.reads (Yields-made _ _ _ _ _ chosen.reads chosen.wire chosen.net.0)
    (inl (inr (inr (inl refl))), (away.result, (inl (inl refl), tt)))
