use Rattle.std.proofs.Common.{sym, ◌∙◌}
use Rattle.ap_vr.proofs.NamedFaultless.{one_netlist}
use Rattle.ap_vr.proofs.building.texts_spell_one.Goals as goal

pub returns : goal.returns
returns c = λ text a b p q e f. one_netlist a b p q (sym e ∙ f)
