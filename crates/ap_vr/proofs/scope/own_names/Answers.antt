use Rattle.std.proofs.Common.{◌∙◌, ap}
use Rattle.std.specs.Prelude.{codes}
use Rattle.ap_vr.specs.Tables.{with_name}
use Rattle.ap_vr.proofs.scope.own_names.Goals as goal

pub returns : goal.returns
returns c = c.in_ok-add-2.ensures.table ∙ ap (λ ns. with_name ns (codes "rst")) (c.in_ok-add.ensures.table ∙ ap (λ ns. with_name ns (codes "clk")) c.new-names.ensures)
