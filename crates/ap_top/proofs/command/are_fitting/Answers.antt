use Rattle.std.specs.String.{string_bytes}
use Rattle.ap_top.specs.Commands.{IsFitting}
use Rattle.ap_top.proofs.Words.{each_step, each_stop, each_end, pair_at, in_pairs, past_pairs}
use Rattle.ap_top.proofs.command.are_fitting.Goals as goal

pub returns-then-not-fits : goal.returns-then-not-fits
returns-then-not-fits c =
    let there = c.loop-i-test.true in
    each_stop IsFitting _ _ _ (in_pairs string_bytes _ _ _ c.requires there) (pair_at string_bytes c.args.slots.now _ _ _ _ _ c.requires there c.index-words-i.is c.as_str.ensures.value) (λ h. let yes = c.fits.ensures.1 h in cc) c.loop-i.invariant

pub loop-i-preserved : goal.loop-i-preserved
loop-i-preserved c =
    let there = c.loop-i-test.true in
    each_step IsFitting _ _ _ (in_pairs string_bytes _ _ _ c.requires there) (pair_at string_bytes c.args.slots.now _ _ _ _ _ c.requires there c.index-words-i.is c.as_str.ensures.value) (c.fits.ensures.0 c.if-not-fits.false) c.loop-i.invariant

pub returns : goal.returns
returns c = each_end IsFitting _ _ (past_pairs string_bytes c.args.slots.now _ _ c.requires c.loop-i-test.false) c.loop-i.invariant
