use Rattle.std.proofs.Common.{ap, sym}
use Rattle.ap_net.specs.Modules.{reset_value}
use Rattle.ap_net.proofs.Among.{at_reg, port_reset, wire_reset, past}
use Rattle.ap_net.proofs.module.reset_among.Goals as goal

pub returns-then-number-ports : goal.returns-then-number-ports
returns-then-number-ports c = sym (port_reset c.args.ports.now c.args.wires.now c.args.regs.now c.args.number c.if-number-ports.true)

pub returns-then-number-wires : goal.returns-then-number-wires
returns-then-number-wires c = sym (wire_reset c.args.ports.now c.args.wires.now c.args.regs.now c.args.number c.if-number-ports.false c.if-number-wires.true)

pub returns : goal.returns
returns c =
    let inside = past c.args.ports.now c.args.wires.now c.args.regs.now c.args.number c.requires c.if-number-ports.false c.if-number-wires.false in
    sym (ap reset_value (at_reg c.args.ports.now c.args.wires.now c.args.regs.now c.args.number c.index-regs-number.result c.if-number-ports.false c.if-number-wires.false inside))
