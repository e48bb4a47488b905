use Rattle.std.proofs.Common.{◌∙◌, ◌≤◌, ◌==◌, arith, rules, ℕ, List, [], ◌∷◌, inl, inr, refl}
use Rattle.ap_net.proofs.Laws.{Makes-trans, laws, IsFrom-more, Reads-refl, Yields-made, Yields-after}
use Rattle.ap_comb.proofs.MovedTwice.{right_parts}
use Rattle.ap_comb.proofs.levels.move_right.Goals as goal

pub returns-clause-value : goal.returns-clause-value
returns-clause-value c = λ read s.
    let moved = c.in_ok-moved.ensures.value read s in
    let kept = c.in_ok-kept.ensures.value read moved.0 in
    let above = c.in_ok-above.ensures.value read kept.0 in
    let within : c.args.places ≤ c.args.x.width = omega arith in
    (above.0, moved.1 ∙ rw (kept.1, above.1, c.in_ok-kept.ensures.net.1) (right_parts (read c.args.fill.number == 1) c.args.x.width (read c.args.x.number) c.args.places within))

pub returns-clause-makes : goal.returns-clause-makes
returns-clause-makes c = Makes-trans _ _ _ c.in_ok-above.ensures.makes (Makes-trans _ _ _ c.in_ok-kept.ensures.makes c.in_ok-moved.ensures.makes)

pub upper_bits-requires-clause-x : goal.upper_bits-requires-clause-x
upper_bits-requires-clause-x c = let above' = c.in_ok-above.ensures in search (rules, laws)

pub make-requires-clause-fits : goal.make-requires-clause-fits
make-requires-clause-fits c = let above' = c.in_ok-above.ensures in let kept' = c.in_ok-kept.ensures in search (rules, laws)

pub returns-clause-reads : goal.returns-clause-reads
returns-clause-reads c =
    let from : List ℕ = c.args.x.number ∷ c.args.fill.number ∷ [] in
    let kept = c.in_ok-kept.ensures.reads in
    let moved = c.in_ok-moved.ensures in
    let first = Yields-after from (c.args.fill.number ∷ []) _ _ _ _ (Reads-refl from c.args.out.now) c.in_ok-above.ensures.reads (inl (inr (inl refl)), tt) in
    let second = Yields-after from (c.args.x.number ∷ []) _ _ _ _ first.reads kept (inl (inl refl), tt) in
    Yields-after from (c.in_ok-above.above.number ∷ c.in_ok-kept.kept.number ∷ []) _ _ _ _ second.reads (Yields-made _ _ _ _ _ moved.reads moved.wire moved.net.0)
    (IsFrom-more from c.args.out.now _ _ _ (kept.reads).extends first.result, (second.result, tt))
