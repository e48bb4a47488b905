use Rattle.std.proofs.Common.{◌<◌, length, arith}
use Rattle.ap_program.specs.Sources.{operand_beside}
use Rattle.ap_program.proofs.FieldWidths.{wide_high, wide_low}
use Rattle.ap_program.proofs.FreeFields.{pairs_past_left, pairs_past_right, pairs_read_right}
use Rattle.ap_program.proofs.sources.operands_of.Goals as goal

pub returns-then-i-fields : goal.returns-then-i-fields
returns-then-i-fields c = λ lines labels. pairs_past_left (operand_beside lines) c.args.fields.now c.args.written.now c.loop-i.i c.loop-i.operands _ (omega (arith, c.if-i-fields.true)) (c.loop-i.invariant lines labels)

pub operand_of-requires-clause-low : goal.operand_of-requires-clause-low
operand_of-requires-clause-low c = wide_low c.args.fields.now c.requires c.loop-i.i _ (omega (arith, c.if-i-fields.false))

pub operand_of-requires-clause-high : goal.operand_of-requires-clause-high
operand_of-requires-clause-high c = wide_high c.args.fields.now c.requires c.loop-i.i _ (omega (arith, c.if-i-fields.false))

pub loop-i-preserved : goal.loop-i-preserved
loop-i-preserved c = λ lines labels.
    let low : c.loop-i.i < length c.args.fields.now = omega (arith, c.if-i-fields.false) in
    pairs_read_right (operand_beside lines) c.args.fields.now c.args.written.now c.loop-i.i _ c.index-written-i.result c.operand_of.result c.loop-i.operands c.push.new.self _ low c.loop-i-test.true c.index-written-i.is (c.operand_of.ensures lines labels) c.in_ok-push.ensures.ok (c.loop-i.invariant lines labels)

pub returns : goal.returns
returns c = λ lines labels. pairs_past_right (operand_beside lines) c.args.fields.now c.args.written.now c.loop-i.i c.loop-i.operands _ (omega (arith, c.loop-i-test.false)) (c.loop-i.invariant lines labels)
