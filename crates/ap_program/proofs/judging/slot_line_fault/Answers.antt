use Rattle.std.proofs.Common.{sym, ◌∙◌}
use Rattle.ap_program.specs.LineFaults.{first_call_fault, first_slot_fault}
use Rattle.ap_program.proofs.Firsts.{or_first, or_second}
use Rattle.ap_program.proofs.judging.slot_line_fault.Goals as goal

pub returns-then-is_some : goal.returns-then-is_some
returns-then-is_some c = λ lines before labels h. or_first c.in_ok-fault.fault (first_call_fault c.args.design.now lines c.args.call.now) (first_slot_fault c.args.design.now before c.args.call.now) (c.in_ok-fault.ensures lines labels) (sym c.is_some.ensures ∙ c.if-is_some.true)

pub returns : goal.returns
returns c = λ lines before labels h. or_second c.in_ok-fault.fault (first_call_fault c.args.design.now lines c.args.call.now) (first_slot_fault c.args.design.now before c.args.call.now) c.slot_fault.result (c.in_ok-fault.ensures lines labels) (sym c.is_some.ensures ∙ c.if-is_some.false) (c.slot_fault.ensures before h)
