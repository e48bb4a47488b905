use Rattle.std.proofs.Common.{◌∙◌, ap, sym}
use Rattle.ap_net.specs.Modules.{name_of}
use Rattle.ap_net.proofs.Among.{at_reg, past}
use Rattle.ap_net.proofs.module.name_among.Goals as goal

pub returns : goal.returns
returns c =
    let inside = past c.args.ports.now c.args.wires.now c.args.regs.now c.args.number c.requires c.if-number-ports.false c.if-number-wires.false in
    c.as_str-2.ensures
    ∙ sym (ap name_of (at_reg c.args.ports.now c.args.wires.now c.args.regs.now c.args.number c.index-regs-number.result c.if-number-ports.false c.if-number-wires.false inside))
