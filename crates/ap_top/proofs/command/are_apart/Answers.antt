use Rattle.std.proofs.Common.{subst, sym, ◌+◌}
use Rattle.std.specs.List.{AllByRecursion as Each}
use Rattle.std.specs.String.{string_bytes}
use Rattle.ap_top.specs.Commands.{MayStandWith}
use Rattle.ap_top.proofs.Words.{apart_step, apart_stop, apart_end, pair_at, in_pairs, past_pairs, rest_pairs}
use Rattle.ap_top.proofs.command.are_apart.Goals as goal

pub returns-then-not-may_stand_before : goal.returns-then-not-may_stand_before
returns-then-not-may_stand_before c =
    let there = c.loop-i-test.true in
    apart_stop _ _ _ (in_pairs string_bytes _ _ _ c.requires there) (pair_at string_bytes c.args.slots.now _ _ _ _ _ c.requires there c.index-words-i.is c.as_str.ensures.value) (λ h. let yes = c.may_stand_before.ensures.1 (subst (Each (MayStandWith _)) (sym (rest_pairs string_bytes (c.loop-i.i + 1) c.args.slots.now c.args.words.now)) h) in cc) c.loop-i.invariant

pub loop-i-preserved : goal.loop-i-preserved
loop-i-preserved c =
    let there = c.loop-i-test.true in
    apart_step _ _ _ (in_pairs string_bytes _ _ _ c.requires there) (pair_at string_bytes c.args.slots.now _ _ _ _ _ c.requires there c.index-words-i.is c.as_str.ensures.value) (subst (Each (MayStandWith _)) (rest_pairs string_bytes (c.loop-i.i + 1) c.args.slots.now c.args.words.now) (c.may_stand_before.ensures.0 c.if-not-may_stand_before.false)) c.loop-i.invariant

pub returns : goal.returns
returns c = apart_end _ _ (past_pairs string_bytes c.args.slots.now _ _ c.requires c.loop-i-test.false) c.loop-i.invariant
