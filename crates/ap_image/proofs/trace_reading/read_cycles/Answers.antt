use Rattle.std.proofs.Common.{◌<◌, length, arith}
use Rattle.std.proofs.lemmas.Result.{err_from_is_err_and}
use Rattle.ap_text.proofs.Laws.{IsLineWithin-item}
use Rattle.ap_image.specs.TraceTexts.{trace_fault}
use Rattle.ap_image.proofs.Cycles.{trace_step}
use Rattle.ap_image.proofs.FirstFaults.{fault_of_lines}
use Rattle.ap_image.proofs.LinesAt.{split_at, take_at}
use Rattle.ap_image.proofs.trace_reading.read_cycles.Goals as goal

pub read_cycle-requires : goal.read_cycle-requires
read_cycle-requires c = IsLineWithin-item _ _ c.loop-line.line-index _ (omega arith) c.line-item.is c.requires

pub returns-in_err-cycle-clause-err : goal.returns-in_err-cycle-clause-err
returns-in_err-cycle-clause-err c =
    let p = err_from_is_err_and c.from_residual.result c.from_residual.ensures.1 in
    let lt : c.loop-line.line-index < length c.args.lines.now = omega arith in
    rw (p.1, p.2) (fault_of_lines (trace_fault c.args.shape.now) _ _ _ _ _ (split_at c.args.text.now c.args.lines.now c.loop-line.line-index _ lt c.line-item.is) c.loop-line.invariant.fine (c.in_err-cycle.ensures.err _))

pub loop-line-preserved : goal.loop-line-preserved
loop-line-preserved c =
    let lt : c.loop-line.line-index < length c.args.lines.now = omega arith in
    rw (take_at c.args.text.now c.args.lines.now c.loop-line.line-index _ lt c.line-item.is) (trace_step c.args.shape.now _ _ c.loop-line.cycles c.push.new.self c.in_ok-cycle.cycle c.loop-line.invariant c.in_ok-cycle.ensures.ok c.in_ok-push.ensures.ok)
