use Rattle.std.proofs.Common.{◌<◌, length, refl, arith}
use Rattle.std.proofs.lemmas.Result.{err_from_is_err_and}
use Rattle.ap_text.specs.Spans.{line_in}
use Rattle.ap_text.proofs.Laws.{IsLineWithin-item}
use Rattle.ap_desc.specs.declared.description.Numbered.{Numbered}
use Rattle.ap_read.proofs.Firsts.{first_of_lines, order_more, place_more, said_more}
use Rattle.ap_read.proofs.Lines.{take_at, split_at}
use Rattle.ap_read.proofs.reading.read_lines.Goals as goal

pub read_at-requires : goal.read_at-requires
read_at-requires c = IsLineWithin-item _ _ c.loop-line.line-index _ (omega arith) c.line-item.is c.requires.within

pub returns-in_err-statement-clause-fault : goal.returns-in_err-statement-clause-fault
returns-in_err-statement-clause-fault c =
    let p = err_from_is_err_and c.from_residual.result c.from_residual.ensures.1 in
    let lt : c.loop-line.line-index < length c.args.lines.now = omega arith in
    rw (p.1, p.2) (first_of_lines c.spelling_is_unique.ensures c.loop-line.list _ _ _ _ _ (split_at c.args.text.now c.args.lines.now c.loop-line.line-index _ lt c.line-item.is) c.requires.rising c.loop-line.invariant.said c.loop-line.invariant.order (c.in_err-statement.ensures.err _ c.loop-line.invariant.place))

pub loop-line-preserved : goal.loop-line-preserved
loop-line-preserved c =
    let lt : c.loop-line.line-index < length c.args.lines.now = omega arith in
    let n : Numbered = record { line = c.line-item.result.number; statement = c.in_ok-statement.statement } in
    let says = c.in_ok-statement.ensures.ok in
    let pushed = c.in_ok-push.ensures.ok in
    record {
      said = said_more c.loop-line.list _ _ _ (line_in c.args.text.now c.line-item.result) n pushed (take_at c.args.text.now c.args.lines.now c.loop-line.line-index _ lt c.line-item.is) c.loop-line.invariant.said refl says.0;
      order = order_more c.loop-line.list _ n c.loop-line.place pushed c.loop-line.invariant.order c.loop-line.invariant.place says.1;
      place = place_more c.loop-line.list _ n c.loop-line.place _ pushed c.after-place.ensures c.loop-line.invariant.place says.1;
    }
