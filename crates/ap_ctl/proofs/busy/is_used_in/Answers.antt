use Rattle.std.proofs.Common.{sym, ◌∙◌}
use Rattle.std.specs.Prelude.{◌==◌, ◌&&◌}
use Rattle.ap_desc.specs.declared.design.Instr.{Instr}
use Rattle.ap_desc.specs.declared.design.Micro.{Micro}
use Rattle.ap_model.specs.UnitUse.{is_use_of}
use Rattle.ap_ctl.proofs.Chosen.{any_flat}
use Rattle.ap_ctl.proofs.busy.is_used_in.Goals as goal

pub returns : goal.returns
returns c = c.some_uses.ensures ∙ sym (any_flat (λ (m : Micro). (m.stage == c.args.stage) && is_use_of c.args.unit m.act) (λ (i : Instr). i.micros) c.args.design.now.instrs)
