use Rattle.std.proofs.Common.{sym, ◌∙◌}
use Rattle.std.specs.Prelude.{codes}
use Rattle.ap_vr.proofs.Regroup.{in_five}
use Rattle.ap_vr.proofs.line_text.instance_head.Goals as goal

pub returns : goal.returns
returns c = c.in_ok-format.ensures.ok ∙ sym (in_five (codes "  ") c.args.kind.now (codes " ") c.args.name.now (codes " (.clk(clk), .rst(rst)"))
