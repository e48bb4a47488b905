use Rattle.std.proofs.Common.{◌∙◌, refl, [], ◌∷◌, inl, inr}
use Rattle.ap_net.proofs.Laws.{Makes-refl, Reads-refl, Yields-made, Yields-same, Yields-after}
use Rattle.ap_comb.proofs.select.one_of.Goals as goal

pub returns-in_default-clause-makes : goal.returns-in_default-clause-makes
returns-in_default-clause-makes c = Makes-refl _

pub returns-clause-value : goal.returns-clause-value
returns-clause-value c = λ read s.
    let y = c.in_ok-chosen.ensures.value read s in
    (y.0, y.1 ∙ rw c.in-Some.is refl)

pub returns-in_default-clause-reads : goal.returns-in_default-clause-reads
returns-in_default-clause-reads c = Yields-same _ _ _ (inr (inl refl))

pub returns-clause-reads : goal.returns-clause-reads
returns-clause-reads c =
    let chosen = c.in_ok-chosen.ensures in
    rw c.in-Some.is
    (Yields-after (c.args.bit.number ∷ c.args.first.number ∷ c.in-Some.second.number ∷ []) (c.args.bit.number ∷ c.in-Some.second.number ∷ c.args.first.number ∷ []) _ _ _ _ (Reads-refl _ c.args.out.now)
    (Yields-made _ _ _ _ _ chosen.reads chosen.wire chosen.net.0) (inl (inl refl), (inl (inr (inr (inl refl))), (inl (inr (inl refl)), tt))))
