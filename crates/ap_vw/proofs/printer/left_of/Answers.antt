use Rattle.ap_vw.proofs.Printed.{none_due}
use Rattle.ap_vw.proofs.printer.left_of.Goals as goal

pub invariant_of-result : goal.invariant_of-result
invariant_of-result c = record {
  begun = c.requires.begun;
  instances = c.requires.instances;
  ended = λ none. absurd (c.in_default.not-Nothing (none_due c.args.left.due c.args.left none));
}
