use Rattle.std.proofs.Common.{map, not, sym, ap, ◌∙◌, arith}
use Rattle.ap_text.proofs.Laws.{IsLineWithin-item}
use Rattle.ap_desc.specs.Faults.{begins}
use Rattle.ap_read.proofs.Lines.{none_more, some_one}
use Rattle.ap_read.proofs.missing.none_begins.Goals as goal

pub begins-requires : goal.begins-requires
begins-requires c = IsLineWithin-item _ _ c.loop-line.line-index _ (omega arith) c.line-item.is c.requires

pub returns-then-begins : goal.returns-then-begins
returns-then-begins c =
    let words = map (λ word. word.now) c.args.words.now in
    sym (ap not (some_one (begins words) c.args.text.now c.args.lines.now c.loop-line.line-index _ (omega arith) c.line-item.is (sym c.begins.ensures ∙ c.if-begins.true)))

pub loop-line-preserved : goal.loop-line-preserved
loop-line-preserved c =
    let words = map (λ word. word.now) c.args.words.now in
    none_more (begins words) c.args.text.now c.args.lines.now c.loop-line.line-index _ (omega arith) c.line-item.is c.loop-line.invariant (sym c.begins.ensures ∙ c.if-begins.false)
