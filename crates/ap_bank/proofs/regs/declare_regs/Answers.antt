use Rattle.std.proofs.Common.{List, sym, ap, subst, ◌∙◌}
use Rattle.ap_desc.specs.declared.design.Reg.{Reg}
use Rattle.ap_net.specs.Draft.{Draft}
use Rattle.ap_net.specs.Modules.{ports_among}
use Rattle.ap_bank.specs.Regs.{AreRegs, with_regs}
use Rattle.ap_bank.proofs.Declared.{are_regs, ports_regs, regs_named_once, regs_within}
use Rattle.ap_bank.proofs.regs.declare_regs.Goals as goal

pub declare-requires : goal.declare-requires
declare-requires c =
    let design = c.args.design.now in
    rw c.as_slice.ensures (record { within = regs_within design c.requires.clean; new = c.requires.new; apart = regs_named_once design c.requires.clean; fresh = c.requires.fresh })

pub returns : goal.returns
returns c =
    let y = rw c.as_slice.ensures at c.in_ok-made.ensures in
    let a : Draft = c.args.out.now in
    let regs : List Reg = c.args.design.now.regs in
    record {
      ok = y.ok;
      wires = y.wires;
      regs = subst (λ (d : Draft). AreRegs d regs c.in_ok-made.made) (sym y.ok) (subst (AreRegs (with_regs a regs) regs) (sym y.wires) (are_regs a regs c.rules.ensures (regs_within c.args.design.now c.requires.clean)));
      fresh = y.fresh;
      late = y.late;
      ports = ap (λ (d : Draft). ports_among d.nets) y.ok ∙ ports_regs a regs;
      others = y.others;
    }
