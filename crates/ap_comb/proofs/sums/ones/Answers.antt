use Rattle.std.proofs.Common.{ap, ◌∙◌, ℕ, List, [], ◌∷◌, ◌≡◌}
use Rattle.std.proofs.Math.Nat.{div-one}
use Rattle.ap_net.proofs.Laws.{Makes-trans, Yields-after, carried}
use Rattle.ap_bits.specs.Operations.{ones_among}
use Rattle.ap_comb.proofs.BitCounts.{count_fits}
use Rattle.ap_comb.proofs.sums.ones.Goals as goal

pub ones_from-requires-clause-room : goal.ones_from-requires-clause-room
ones_from-requires-clause-room c = rw c.min.ensures (count_fits c.args.x.width c.requires.x.high)

pub returns-clause-value : goal.returns-clause-value
returns-clause-value c = λ read s.
    let wide = c.in_ok-wide.ensures.value read s in
    let counted = c.in_ok-counted.ensures.value read wide.0 in
    (counted.0, wide.1 ∙ counted.1 ∙ ap (ones_among c.args.x.width) (div-one (read c.args.x.number)))

pub returns-clause-makes : goal.returns-clause-makes
returns-clause-makes c = Makes-trans _ _ _ c.in_ok-counted.ensures.makes c.in_ok-wide.ensures.makes

pub returns-clause-reads : goal.returns-clause-reads
returns-clause-reads c =
    let counted = c.in_ok-counted.ensures.reads in
    Yields-after (c.args.x.number ∷ []) (c.in_ok-counted.counted.number ∷ []) _ _ _ _ counted.reads c.in_ok-wide.ensures.reads (counted.result, tt)

pub returns-clause-carries : goal.returns-clause-carries
returns-clause-carries c = let wide = c.in_ok-wide.ensures in carried c.args.out.now _ _ (λ read y. y ≡ ones_among c.args.x.width (read c.args.x.number)) _ wide.net.0 wide.net.1 (returns-clause-value c)
