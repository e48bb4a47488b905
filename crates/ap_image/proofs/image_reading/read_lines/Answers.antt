use Rattle.std.proofs.Common.{◌<◌, length, arith}
use Rattle.std.proofs.lemmas.Result.{err_from_is_err_and}
use Rattle.ap_text.proofs.Laws.{IsLineWithin-item}
use Rattle.ap_image.specs.ImageTexts.{image_fault}
use Rattle.ap_image.proofs.FirstFaults.{fault_of_lines}
use Rattle.ap_image.proofs.LinesAt.{split_at, take_at}
use Rattle.ap_image.proofs.image_reading.read_lines.Goals as goal

pub read_line-requires-clause-within : goal.read_line-requires-clause-within
read_line-requires-clause-within c = IsLineWithin-item _ _ c.loop-line.line-index _ (omega arith) c.line-item.is c.requires

pub returns-in_err-read_line-clause-err : goal.returns-in_err-read_line-clause-err
returns-in_err-read_line-clause-err c =
    let p = err_from_is_err_and c.from_residual-in_err-read_line.result c.from_residual-in_err-read_line.ensures.1 in
    let lt : c.loop-line.line-index < length c.args.lines.now = omega arith in
    rw (p.1, p.2) (fault_of_lines (image_fault c.args.shape.now) _ _ _ _ _ (split_at c.args.text.now c.args.lines.now c.loop-line.line-index _ lt c.line-item.is) c.loop-line.invariant.fine (c.in_err-read_line.ensures.err _ c.loop-line.invariant))

pub loop-line-preserved : goal.loop-line-preserved
loop-line-preserved c =
    let lt : c.loop-line.line-index < length c.args.lines.now = omega arith in
    rw (take_at c.args.text.now c.args.lines.now c.loop-line.line-index _ lt c.line-item.is) (c.in_ok-read_line.ensures.ok _ c.loop-line.invariant)
