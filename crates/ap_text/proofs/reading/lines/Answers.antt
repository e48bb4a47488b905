use Rattle.std.proofs.Common.{◌≡◌, length, arith, rules}
use Rattle.ap_text.proofs.LineLists.{LinesSoFar, lines_so_far-line_feed, lines_so_far-other, lines_so_far-end, lines_so_far-within}
use Rattle.ap_text.proofs.reading.lines.Goals as goal
use Rattle.ap_text.proofs.reading.lines.Goals.{then-text-at-eq10+in_ok-line+in_ok-add_line, else-text-at-eq10}

pub loop-at-preserved : goal.loop-at-preserved
loop-at-preserved c =
    elim c.if-text-at-eq10.branch [
      | then-text-at-eq10+in_ok-line+in_ok-add_line w ↦
          rw (w.list-is, w.in_ok-add_line.ensures, w.from-is, w.number-is)
          (lines_so_far-line_feed _ _ _ _ _ _ c.loop-at.invariant c.loop-at-test.true (search rules) w.in_ok-line.ensures.line w.in_ok-line.ensures.within)
      | else-text-at-eq10 w ↦
          rw (w.list-is, w.from-is, w.number-is)
          (lines_so_far-other _ _ _ _ _ c.loop-at.invariant (search rules))
    ]

pub returns-clause-lines : goal.returns-clause-lines
returns-clause-lines c =
    let ended : c.loop-at.at ≡ length c.args.text.now = omega arith in
    let so_far : LinesSoFar c.args.text.now c.loop-at.list.items c.loop-at.number c.loop-at.from (length c.args.text.now) = rw ended at c.loop-at.invariant in
    rw c.in_ok-add_line-2.ensures (lines_so_far-end _ _ _ _ _ so_far c.in_ok-line-2.ensures.line)

pub returns-clause-within : goal.returns-clause-within
returns-clause-within c = rw c.in_ok-add_line-2.ensures (record { each = lines_so_far-within _ _ _ _ _ _ c.loop-at.invariant c.in_ok-line-2.ensures.within })
