use Rattle.std.proofs.Common.{◌≡◌, ℕ, List, map, Bool, sym, ap, subst, ◌∙◌}
use Rattle.std.proofs.lemmas.Result.{err_from_is_err_and}
use Rattle.ap_text.specs.declared.line.Line.{Line}
use Rattle.ap_text.specs.Lines.{TextLine, lines_of}
use Rattle.ap_text.specs.Spans.{line_in}
use Rattle.ap_bits.specs.Beside.{EachBeside}
use Rattle.ap_desc.specs.Faults.{is_missing_some}
use Rattle.ap_desc.specs.Reading.{IsAt}
use Rattle.ap_read.specs.ReadFaults.{IsReadFault}
use Rattle.ap_read.specs.LineFaults.{IsLineFault, LinesRise}
use Rattle.ap_read.proofs.Whole.{description, faultless, least_of_text, lines_rise, missing_first}
use Rattle.ap_read.proofs.reading.read_short.Goals as goal

-- the lines in the slice are those of the text
same : (text : List ℕ) (list slice : List Line) → slice ≡ list → map (line_in text) list ≡ lines_of text → map (line_in text) slice ≡ lines_of text
same text list slice e h = ap (map (line_in text)) e ∙ h

-- whether they lack something
lacking : (lines of_text : List TextLine) (result answer : Bool) → lines ≡ of_text → result ≡ is_missing_some lines → result ≡ answer → is_missing_some of_text ≡ answer
lacking lines of_text result answer e is h = sym (ap is_missing_some e) ∙ sym is ∙ h

pub returns-then-is_missing_some-clause-refused : goal.returns-then-is_missing_some-clause-refused
returns-then-is_missing_some-clause-refused c =
    let lines = same c.args.text.now _ _ c.as_slice-lines.ensures.value c.in_ok-list.ensures.lines in
    subst (IsReadFault c.args.text.now) (sym c.refused.ensures) (missing_first c.args.text.now c.requires (lacking _ _ _ _ lines c.is_missing_some.ensures c.if-is_missing_some.true))

pub read_lines-requires-clause-rising : goal.read_lines-requires-clause-rising
read_lines-requires-clause-rising c =
    let lines = same c.args.text.now _ _ c.as_slice-lines.ensures.value c.in_ok-list.ensures.lines in
    subst (LinesRise 0) (sym lines) (lines_rise c.args.text.now)

pub returns-in_err-statements-clause-refused : goal.returns-in_err-statements-clause-refused
returns-in_err-statements-clause-refused c =
    let lines = same c.args.text.now _ _ c.as_slice-lines.ensures.value c.in_ok-list.ensures.lines in
    let missing = lacking _ _ _ _ lines c.is_missing_some.ensures c.if-is_missing_some.false in
    let p = err_from_is_err_and c.from_residual-in_err-statements.result c.from_residual-in_err-statements.ensures.1 in
    rw (p.1, p.2) (least_of_text c.args.text.now _ c.requires missing (subst (λ (l : List TextLine). IsLineFault l c.in_err-statements.field-0.0) lines c.in_err-statements.ensures.fault))

pub new-requires : goal.new-requires
new-requires c =
    let lines = same c.args.text.now _ _ c.as_slice-lines.ensures.value c.in_ok-list.ensures.lines in
    let missing = lacking _ _ _ _ lines c.is_missing_some.ensures c.if-is_missing_some.false in
    description c.in_ok-statements.statements _ (lines_rise c.args.text.now) missing (subst (λ (l : List TextLine). EachBeside IsAt c.in_ok-statements.statements l) lines c.in_ok-statements.ensures.said) c.in_ok-statements.ensures.order

pub returns-clause-faultless : goal.returns-clause-faultless
returns-clause-faultless c =
    let lines = same c.args.text.now _ _ c.as_slice-lines.ensures.value c.in_ok-list.ensures.lines in
    let missing = lacking _ _ _ _ lines c.is_missing_some.ensures c.if-is_missing_some.false in
    faultless c.spelling_is_unique.ensures c.args.text.now c.in_ok-statements.statements c.requires missing (subst (λ (l : List TextLine). EachBeside IsAt c.in_ok-statements.statements l) lines c.in_ok-statements.ensures.said) c.in_ok-statements.ensures.order
