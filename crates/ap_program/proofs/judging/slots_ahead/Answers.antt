use Rattle.std.proofs.Common.{◌≡◌, ◌<◌, ◌+◌, ◌-◌, ℕ, length, drop, sym, ap, ◌∙◌, arith}
use Rattle.std.proofs.lemmas.List.{length-set}
use Rattle.ap_program.specs.Programs.{is_slot_next}
use Rattle.ap_program.proofs.SlotsAhead.{ahead_each, ahead_here}
use Rattle.ap_program.proofs.judging.slots_ahead.Goals as goal

pub down-preserved : goal.down-preserved
down-preserved c =
    let lines = c.args.lines.now in
    let i : ℕ = c.down.i - 1 in
    let lt : i < length lines = omega (arith, c.down-test.true, c.down.invariant.within) in
    let back : i + 1 ≡ c.down.i = omega (arith, c.down-test.true) in
    let here : c.down.next ≡ is_slot_next (drop (i + 1) lines) = c.down.invariant.here ∙ ap (λ n. is_slot_next (drop n lines)) (sym back) in
    record {
      len = length-set c.down.ahead.items i c.down.next ∙ c.down.invariant.len;
      within = omega (arith, lt);
      here = ahead_here lines i c.index-lines-i.result c.down.next c.is_slot_from-next.result lt c.index-lines-i.is here c.is_slot_from-next.ensures;
      each = ahead_each lines c.down.ahead.items i c.down.next lt c.down.invariant.len here (λ k le low. c.down.invariant.each k (omega (arith, le, back)) low);
    }
