use Rattle.std.proofs.Common.{map, false, ◌∙◌}
use Rattle.ap_desc.specs.declared.design.InPort.{InPort}
use Rattle.ap_plain.proofs.RunLemmas.{line_beyond, line_there}
use Rattle.ap_plain.proofs.run.inputs_at.Goals as goal

pub returns-in_ok-ports-in-Some : goal.returns-in_ok-ports-in-Some
returns-in_ok-ports-in-Some c =
    let same = c.in_ok-ports-in-Some.ensures ∙ c.as_slice.ensures in
    (λ i. record { wait = c.in-Some.line.now.wait; ports = same i }) ∙ line_there c.args.trace.now.lines (map (λ (p : InPort). p.width) c.args.design.now.inputs) c.args.j c.in-Some.line.now c.in-Some.ensures

pub returns-in_ok-zeros-in-None : goal.returns-in_ok-zeros-in-None
returns-in_ok-zeros-in-None c =
    let same = c.of-ports.ensures ∙ c.in_ok-zeros-in-None.ensures in
    (λ i. record { wait = false; ports = same i }) ∙ line_beyond c.args.trace.now.lines (map (λ (p : InPort). p.width) c.args.design.now.inputs) c.args.j c.in-None.ensures
