use Rattle.std.proofs.Common.{◌/◌, ◌^◌, sym, ◌∙◌, ℕ, List, [], ◌∷◌}
use Rattle.ap_net.proofs.Laws.{Makes-trans, Yields-after}
use Rattle.ap_comb.proofs.BitCounts.{ones_among-one}
use Rattle.ap_comb.proofs.sums.wide_bit.Goals as goal

pub returns-clause-value : goal.returns-clause-value
returns-clause-value c = λ read s.
    let wide = c.in_ok-wide.ensures.value read s in
    let narrow = c.in_ok-narrow.ensures.value read wide.0 in
    (narrow.0, wide.1 ∙ narrow.1 ∙ sym (ones_among-one (read c.args.x.number / 2 ^ c.args.place)))

pub returns-clause-makes : goal.returns-clause-makes
returns-clause-makes c = Makes-trans _ _ _ c.in_ok-narrow.ensures.makes c.in_ok-wide.ensures.makes

pub returns-clause-reads : goal.returns-clause-reads
returns-clause-reads c =
    let narrow = c.in_ok-narrow.ensures.reads in
    Yields-after (c.args.x.number ∷ []) (c.in_ok-narrow.narrow.number ∷ []) _ _ _ _ narrow.reads c.in_ok-wide.ensures.reads (narrow.result, tt)
