use Rattle.std.proofs.Common.{◌∙◌, ◌≤◌, ◌==◌, arith, rules, ℕ, List, [], ◌∷◌, inl, inr, refl}
use Rattle.ap_net.proofs.Laws.{Makes-trans, laws, IsFrom-more, Yields-made, Yields-after}
use Rattle.ap_comb.proofs.MovedTwice.{left_parts}
use Rattle.ap_comb.proofs.levels.move_left.Goals as goal

pub returns-clause-value : goal.returns-clause-value
returns-clause-value c = λ read s.
    let moved = c.in_ok-moved.ensures.value read s in
    let kept = c.in_ok-kept.ensures.value read moved.0 in
    let below = c.in_ok-below.ensures.value read kept.0 in
    let within : c.args.places ≤ c.args.x.width = omega arith in
    (below.0, moved.1 ∙ rw (kept.1, below.1, c.in_ok-below.ensures.net.1) (left_parts (read c.args.turn.number == 1) c.args.x.width (read c.args.x.number) c.args.places (below.0.fits _ _ c.requires.x.declared) within))

pub returns-clause-makes : goal.returns-clause-makes
returns-clause-makes c = Makes-trans _ _ _ c.in_ok-below.ensures.makes (Makes-trans _ _ _ c.in_ok-kept.ensures.makes c.in_ok-moved.ensures.makes)

pub lower_bits-requires-clause-x : goal.lower_bits-requires-clause-x
lower_bits-requires-clause-x c = let below' = c.in_ok-below.ensures in search (rules, laws)

pub make-requires-clause-fits : goal.make-requires-clause-fits
make-requires-clause-fits c = let below' = c.in_ok-below.ensures in let kept' = c.in_ok-kept.ensures in search (rules, laws)

pub returns-clause-reads : goal.returns-clause-reads
returns-clause-reads c =
    let from : List ℕ = c.args.x.number ∷ c.args.turn.number ∷ [] in
    let below = c.in_ok-below.ensures.reads in
    let kept = c.in_ok-kept.ensures.reads in
    let moved = c.in_ok-moved.ensures in
    let second = Yields-after from (c.args.x.number ∷ []) _ _ _ _ below.reads kept (inl (inl refl), tt) in
    Yields-after from (c.in_ok-kept.kept.number ∷ c.in_ok-below.below.number ∷ []) _ _ _ _ second.reads (Yields-made _ _ _ _ _ moved.reads moved.wire moved.net.0)
    (second.result, (IsFrom-more from c.args.out.now _ _ _ (kept.reads).extends below.result, tt))
