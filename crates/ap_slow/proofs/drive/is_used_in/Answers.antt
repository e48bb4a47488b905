use Rattle.std.proofs.Common.{sym, ap, ◌∙◌}
use Rattle.std.specs.Prelude.{◌==◌, ◌&&◌}
use Rattle.std.specs.List.{list_any}
use Rattle.ap_desc.specs.declared.design.Instr.{Instr}
use Rattle.ap_desc.specs.declared.design.Micro.{Micro}
use Rattle.ap_model.specs.UnitUse.{is_use_of}
use Rattle.ap_ctl.proofs.Chosen.{any_flat}
use Rattle.ap_slow.specs.Asking.{uses_unit}
use Rattle.ap_slow.proofs.drive.is_used_in.Goals as goal

pub returns : goal.returns
returns c =
    c.some_uses.ensures ∙ ap (list_any (λ (i : Instr). uses_unit c.args.stage c.args.unit i)) c.as_slice.ensures
    ∙ sym (any_flat (λ (m : Micro). (m.stage == c.args.stage) && is_use_of c.args.unit m.act) (λ (i : Instr). i.micros) c.args.design.now.instrs)
