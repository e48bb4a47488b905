use Rattle.std.proofs.Common.{sym, ap, ◌∙◌}
use Rattle.std.specs.List.{list_any}
use Rattle.ap_desc.specs.PortsApart.{uses_port}
use Rattle.ap_desc.specs.declared.design.Instr.{Instr}
use Rattle.ap_desc.specs.declared.design.Micro.{Micro}
use Rattle.ap_ctl.proofs.Chosen.{any_flat}
use Rattle.ap_rest.specs.Uses.{port_named, uses_in}
use Rattle.ap_rest.proofs.uses.is_port_used.Goals as goal

pub returns : goal.returns
returns c =
    c.some_instr_uses.ensures ∙ ap (list_any (uses_in (port_named c.args.port))) c.as_slice.ensures
    ∙ sym (any_flat (λ (m : Micro). uses_port (port_named c.args.port) m.act) (λ (i : Instr). i.micros) c.args.design.now.instrs)
