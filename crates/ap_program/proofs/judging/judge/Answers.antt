use Rattle.std.proofs.Common.{◌<◌, ◌+◌, length, take, drop, sym, ap, subst, ◌∙◌, arith}
use Rattle.std.proofs.lemmas.List.{length-map}
use Rattle.ap_program.specs.Programs.{is_slot_next}
use Rattle.ap_program.specs.SoFar.{IsSoFar}
use Rattle.ap_program.proofs.FaultyLines.{all_fine, judged, judged_fine, labels_of_split, one_taken, split_at}
use Rattle.ap_program.proofs.SlotsAhead.{read_is}
use Rattle.ap_program.proofs.judging.judge.Goals as goal

pub fault_of-requires-clause-counts : goal.fault_of-requires-clause-counts
fault_of-requires-clause-counts c = ap length c.loop-i.invariant.kept.words ∙ length-map _ _

pub loop-i-preserved : goal.loop-i-preserved
loop-i-preserved c =
    let lines = c.args.lines.now in
    let i = c.loop-i.i in
    let line = c.index-lines-i.result in
    let at = c.index-lines-i.is in
    let split = split_at lines i line c.loop-i-test.true at in
    let count : i < length c.in_ok-ahead.ahead.items = omega (arith, c.loop-i-test.true, c.in_ok-ahead.ensures.len) in
    let next = read_is c.in_ok-ahead.ahead.items i _ c.index.result.now (is_slot_next (drop (i + 1) lines)) count c.index.ensures (c.in_ok-ahead.ensures.each i c.loop-i-test.true) in
    let first = c.in_ok-kind.ensures (take i lines) (drop (i + 1) lines) (labels_of_split c.args.labels.now lines i line split c.requires.labels) c.loop-i.invariant.kept next in
    record {
      fine = judged_fine c.args.design.now lines i line c.loop-i-test.true split c.loop-i.invariant.fine (sym c.in_default.is ∙ first);
      kept = subst (λ ls. IsSoFar c.args.design.now ls c.take.new.self) (sym (one_taken lines i line c.loop-i-test.true at)) (c.in_ok-take.ensures (take i lines) c.loop-i.invariant.kept);
    }

pub returns-in-Some-clause-err : goal.returns-in-Some-clause-err
returns-in-Some-clause-err c =
    let lines = c.args.lines.now in
    let i = c.loop-i.i in
    let line = c.index-lines-i.result in
    let at = c.index-lines-i.is in
    let split = split_at lines i line c.loop-i-test.true at in
    let count : i < length c.in_ok-ahead.ahead.items = omega (arith, c.loop-i-test.true, c.in_ok-ahead.ensures.len) in
    let next = read_is c.in_ok-ahead.ahead.items i _ c.index.result.now (is_slot_next (drop (i + 1) lines)) count c.index.ensures (c.in_ok-ahead.ensures.each i c.loop-i-test.true) in
    let first = c.in_ok-kind.ensures (take i lines) (drop (i + 1) lines) (labels_of_split c.args.labels.now lines i line split c.requires.labels) c.loop-i.invariant.kept next in
    rw c.at.ensures (judged c.args.design.now lines i line c.in-Some.kind c.loop-i-test.true split c.requires.rising c.loop-i.invariant.fine (sym c.in-Some.is ∙ first))

pub returns-clause-ok : goal.returns-clause-ok
returns-clause-ok c = all_fine c.args.design.now c.args.lines.now c.loop-i.i (omega (arith, c.loop-i-test.false)) c.loop-i.invariant.fine
