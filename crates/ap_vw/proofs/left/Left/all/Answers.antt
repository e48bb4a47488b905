use Rattle.std.proofs.Common.{◌≡◌, ◌<◌, length}
use Rattle.std.specs.List.{AllByRecursion as Each}
use Rattle.ap_net.specs.declared.cell.Wire.{Wire}
use Rattle.ap_net.specs.declared.net.Assign.{Assign}
use Rattle.ap_net.specs.declared.net.Next.{Next}
use Rattle.ap_net.specs.declared.net.Instance.{Instance}
use Rattle.ap_net.specs.Cells.{operands, IsNet}
use Rattle.ap_net.specs.Wiring.{NextFits}
use Rattle.ap_net.specs.Modules.{ModuleText, nets_of, module_named, IsInstanceIn}
use Rattle.ap_net.specs.Text.{ports_in}
use Rattle.ap_net.proofs.Netlists.{same_long}
use Rattle.ap_net.proofs.Lists.{All-from}
use Rattle.ap_net.proofs.Wired.{number-IsNet, declared}
use Rattle.ap_net.proofs.Among.{ports_wide, wires_wide, regs_wide}
use Rattle.ap_vw.proofs.left.Left.all.Goals as goal

pub returns-clause-rules : goal.returns-clause-rules
returns-clause-rules c =
    let m : ModuleText = c.args.whole.now in
    record {
      ports = rw c.ports.ensures (ports_wide m c.rules.ensures.wired.widths);
      wires = rw c.wires.ensures (wires_wide m c.rules.ensures.wired.widths);
      regs = rw c.regs.ensures (regs_wide m c.rules.ensures.wired.widths);
      results = rw c.assigns.ensures
          (All-from (λ (a : Assign). IsNet (nets_of m) a.to) (λ (a : Assign). a.to.number < length (nets_of m)) (λ a. number-IsNet (nets_of m) a.to) m.assigns c.rules.ensures.wired.results);
      operands = rw c.assigns.ensures
          (All-from (λ (a : Assign). Each (IsNet (nets_of m)) (operands a.cell)) (λ (a : Assign). Each (λ (o : Wire). o.number < length (nets_of m)) (operands a.cell))
          (λ a. All-from (IsNet (nets_of m)) (λ (o : Wire). o.number < length (nets_of m)) (number-IsNet (nets_of m)) (operands a.cell)) m.assigns (declared _ _ _ c.rules.ensures.wired));
      registers = rw c.nexts.ensures
          (All-from (NextFits (nets_of m)) (λ (x : Next). x.register.number < length (nets_of m)) (λ x h. number-IsNet (nets_of m) x.register h.register) m.nexts c.rules.ensures.wired.registers);
      froms = rw c.nexts.ensures
          (All-from (NextFits (nets_of m)) (λ (x : Next). x.from.number < length (nets_of m)) (λ x h. number-IsNet (nets_of m) x.from h.from) m.nexts c.rules.ensures.wired.registers);
      long = rw c.instances.ensures
          (All-from (IsInstanceIn c.args.earlier.now) (λ (i : Instance). length i.nets ≡ length (ports_in (module_named c.args.earlier.now i.module))) (λ i h. same_long c.args.earlier.now i h) m.instances c.requires);
      nets = rw c.instances.ensures
          (All-from (λ (i : Instance). Each (IsNet (nets_of m)) i.nets) (λ (i : Instance). Each (λ (w : Wire). w.number < length (nets_of m)) i.nets)
          (λ i. All-from (IsNet (nets_of m)) (λ (w : Wire). w.number < length (nets_of m)) (number-IsNet (nets_of m)) i.nets) m.instances c.rules.ensures.connected.declared);
    }
