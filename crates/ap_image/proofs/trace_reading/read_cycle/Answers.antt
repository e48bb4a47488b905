use Rattle.std.proofs.Common.{◌≡◌, ◌&&◌, false, length, nat_lt, refl, sym, ap, ◌∙◌, arith}
use Rattle.std.proofs.lemmas.Bool.{and_left, and_right, le-ltb}
use Rattle.ap_text.specs.Numbers.{number_value}
use Rattle.ap_text.specs.Spans.{line_in}
use Rattle.ap_text.specs.declared.line.Span.{Span}
use Rattle.ap_image.specs.TraceTexts.{are_within}
use Rattle.ap_image.proofs.Cycles.{count_fault, cycle_good, first_none, line_tokens, none_fault, rest_count, rest_none, the_numbers, tokens_count, unclean, wide_fault, within_same}
use Rattle.ap_image.proofs.trace_reading.read_cycle.Goals as goal
use Rattle.ap_image.proofs.trace_reading.read_cycle.Goals.{then-not-line-via-then-not-line, then-not-line-via-else-not-line+then-ports-inputs, then-wait-gt1-via-then-wait-gt1, then-wait-gt1-via-else-wait-gt1+then-not-have_bits}

pub returns-in_default-clause-err : goal.returns-in_default-clause-err
returns-in_default-clause-err c = λ before.
    let count = tokens_count c.args.text.now c.args.line.now c.as_slice.result.now c.as_slice.ensures in
    count_fault c.args.shape.now (line_in c.args.text.now c.args.line.now) c.args.line.now.number _ (λ same. absurd (omega arith)) refl c.at.ensures before

pub returns-then-not-line-clause-err : goal.returns-then-not-line-clause-err
returns-then-not-line-clause-err c = λ before.
    let line = line_in c.args.text.now c.args.line.now in
    let count = tokens_count c.args.text.now c.args.line.now c.as_slice.result.now c.as_slice.ensures in
    let others = rest_count c.as_slice.result.now c.in-len1-up.len_at_least in
    elim c.then-not-line.branch [
      | then-not-line-via-then-not-line w ↦ none_fault c.args.shape.now line c.args.line.now.number _ (unclean line w.if-not-line.true) refl c.at-then-not-line.ensures before
      | then-not-line-via-else-not-line+then-ports-inputs w ↦
          let inputs = ap length w.inputs.ensures in
          count_fault c.args.shape.now line c.args.line.now.number _ (λ same. w.if-ports-inputs.true (omega arith)) refl c.at-then-not-line.ensures before
    ]

pub returns-in_default-number-clause-err : goal.returns-in_default-number-clause-err
returns-in_default-number-clause-err c = λ before.
    let line = line_in c.args.text.now c.args.line.now in
    let d : Span = record { from = 0; to = 0 } in
    none_fault c.args.shape.now line c.args.line.now.number _
    (first_none line _ _ (line_tokens c.args.text.now c.args.line.now c.as_slice.result.now d c.as_slice.ensures c.in-len1-up.len_at_least) (ap number_value (sym c.of.ensures) ∙ c.in_default-number.ensures.value))
    refl c.at-in_default-number.ensures before

pub returns-in_default-2-clause-err : goal.returns-in_default-2-clause-err
returns-in_default-2-clause-err c = λ before.
    let line = line_in c.args.text.now c.args.line.now in
    let d : Span = record { from = 0; to = 0 } in
    none_fault c.args.shape.now line c.args.line.now.number _
    (rest_none line _ _ (line_tokens c.args.text.now c.args.line.now c.as_slice.result.now d c.as_slice.ensures c.in-len1-up.len_at_least) (sym c.in_ok-ports.ensures ∙ c.in_default-2.is))
    refl c.at-in_default-2.ensures before

pub have_bits-requires : goal.have_bits-requires
have_bits-requires c =
    let d : Span = record { from = 0; to = 0 } in
    let numbers = the_numbers c.args.text.now c.args.line.now c.as_slice.result.now d c.of.result.now c.in-Ok.wait c.in-Some.ports _ c.as_slice.ensures c.in-len1-up.len_at_least c.if-not-line.false c.of.ensures c.in-Ok.ensures.value c.in_ok-ports.ensures c.in-Some.is in
    ap length c.as_slice-else-wait-gt1.ensures ∙ numbers.1 ∙ c.if-ports-inputs.false ∙ ap length (c.inputs.ensures ∙ sym c.inputs-else-wait-gt1.ensures)

pub returns-then-wait-gt1-clause-err : goal.returns-then-wait-gt1-clause-err
returns-then-wait-gt1-clause-err c = λ before.
    let line = line_in c.args.text.now c.args.line.now in
    let inputs = c.args.shape.now.inputs in
    let ports = c.in-Some.ports in
    let wait = c.in-Ok.wait in
    let d : Span = record { from = 0; to = 0 } in
    let numbers = the_numbers c.args.text.now c.args.line.now c.as_slice.result.now d c.of.result.now wait ports _ c.as_slice.ensures c.in-len1-up.len_at_least c.if-not-line.false c.of.ensures c.in-Ok.ensures.value c.in_ok-ports.ensures c.in-Some.is in
    let wide : (nat_lt wait 2 && are_within ports inputs) ≡ false = elim c.then-wait-gt1.branch [
      | then-wait-gt1-via-then-wait-gt1 w ↦ and_left (nat_lt wait 2) (are_within ports inputs) (le-ltb wait 2 (omega arith))
      | then-wait-gt1-via-else-wait-gt1+then-not-have_bits w ↦ and_right (nat_lt wait 2) (are_within ports inputs) (within_same _ _ ports inputs _ false w.as_slice-else-wait-gt1.ensures w.inputs-else-wait-gt1.ensures w.have_bits.ensures w.if-not-have_bits.true)
    ] in
    wide_fault c.args.shape.now line wait ports c.args.line.now.number _ numbers.0 (numbers.1 ∙ c.if-ports-inputs.false ∙ ap length c.inputs.ensures) wide refl c.at-then-wait-gt1.ensures before

pub returns-clause-ok : goal.returns-clause-ok
returns-clause-ok c =
    let line = line_in c.args.text.now c.args.line.now in
    let d : Span = record { from = 0; to = 0 } in
    let numbers = the_numbers c.args.text.now c.args.line.now c.as_slice.result.now d c.of.result.now c.in-Ok.wait c.in-Some.ports _ c.as_slice.ensures c.in-len1-up.len_at_least c.if-not-line.false c.of.ensures c.in-Ok.ensures.value c.in_ok-ports.ensures c.in-Some.is in
    cycle_good c.args.shape.now line c.in-Ok.wait c.in-Some.ports numbers.0 (numbers.1 ∙ c.if-ports-inputs.false ∙ ap length c.inputs.ensures) (omega arith)
    (within_same _ _ c.in-Some.ports c.args.shape.now.inputs _ _ c.as_slice-else-wait-gt1.ensures c.inputs-else-wait-gt1.ensures c.have_bits.ensures c.if-not-have_bits.false)
