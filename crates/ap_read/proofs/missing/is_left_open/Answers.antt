use Rattle.std.proofs.Common.{◌≡◌, sym, ◌∙◌, arith}
use Rattle.ap_text.specs.Spans.{line_in}
use Rattle.ap_text.proofs.Laws.{IsLineWithin-item}
use Rattle.ap_desc.specs.Faults.{open_after}
use Rattle.ap_read.proofs.Lines.{take_at}
use Rattle.ap_read.proofs.Words.{opens, closes, stays, open_more}
use Rattle.ap_read.proofs.missing.is_left_open.Goals as goal
use Rattle.ap_read.proofs.missing.is_left_open.Goals.{then-begins, else-begins+then-is_end, else-begins+else-is_end}

pub begins-requires : goal.begins-requires
begins-requires c = IsLineWithin-item _ _ c.loop-line.line-index _ (omega arith) c.line-item.is c.requires

pub is_end-requires : goal.is_end-requires
is_end-requires c = IsLineWithin-item _ _ c.loop-line.line-index _ (omega arith) c.line-item.is c.requires

pub loop-line-preserved : goal.loop-line-preserved
loop-line-preserved c =
    let line = line_in c.args.text.now c.line-item.result in
    let now : c.if-begins.is_open ≡ open_after c.loop-line.is_open line = elim c.if-begins.branch [
      | then-begins w ↦ w.is_open-is ∙ sym (opens c.loop-line.is_open line (sym c.begins.ensures ∙ w.if-begins.true))
      | else-begins+then-is_end w ↦ w.is_open-is ∙ sym (closes c.loop-line.is_open line (sym c.begins.ensures ∙ w.if-begins.false) (sym w.is_end.ensures ∙ w.if-is_end.true))
      | else-begins+else-is_end w ↦ w.is_open-is ∙ sym (stays c.loop-line.is_open line (sym c.begins.ensures ∙ w.if-begins.false) (sym w.is_end.ensures ∙ w.if-is_end.false))
    ] in
    open_more _ _ line _ _ (take_at c.args.text.now c.args.lines.now c.loop-line.line-index _ (omega arith) c.line-item.is) c.loop-line.invariant now
