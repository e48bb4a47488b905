-- Ports and registers, declared one after the other.
use Rattle.std.proofs.Common.{◌≡◌, ℕ, ◌==◌, false, List, [], ◌∷◌, map, refl, sym, ap, append-nil}
use Rattle.std.specs.Prelude.{codes}
use Rattle.std.specs.List.{AllByRecursion as Each}
use Rattle.std.proofs.lemmas.Bool.{eqb-false}
use Rattle.ap_desc.specs.declared.design.Reg.{Reg}
use Rattle.ap_net.specs.declared.cell.Wire.{Wire}
use Rattle.ap_net.specs.Draft.{Draft, Extends}
use Rattle.ap_signals.specs.NetRuns.{file_part, reg_name, unit_part, valid_name}
use Rattle.ap_flight.specs.Stages.{IsOpen}
use Rattle.ap_flight.proofs.Driving.{open_later}
use Rattle.ap_bank.specs.Regs.{AreNewRegs, KeepsOtherRegs, reg_net, with_regs}
use Rattle.ap_front.specs.NewNames.{HasNoneLeft}
use Rattle.ap_front.specs.Opened.{AreOpen}
use Rattle.ap_front.proofs.PortNames.{head}
use Rattle.ap_lead.specs.Declaring.{HasNoParts}

pub regs_extend : (d : Draft) (regs : List Reg) → Extends d (with_regs d regs)
regs_extend d regs = record { name = refl; nets = (map reg_net regs, refl); assigns = ([], sym (append-nil d.assigns)); nexts = ([], sym (append-nil d.nexts)); instances = ([], sym (append-nil d.instances)) }

pub regs_new : (d : Draft) (regs : List Reg) → HasNoneLeft d → AreNewRegs regs d
regs_new d [] h = tt
regs_new d (r ∷ regs) h = (h.regs r, regs_new d regs h)

-- no register has a name with another head
regs_apart : (name : List ℕ) (regs : List Reg) → (head (codes "r_") == head name) ≡ false → Each (λ (r : Reg). reg_name r ≡ name → ⊥) regs
regs_apart name [] other = tt
regs_apart name (r ∷ regs) other = ((λ e. eqb-false (head (codes "r_")) (head name) other (ap head e)), regs_apart name regs other)

pub regs_leave_names : (regs : List Reg) (a b : Draft) → KeepsOtherRegs regs a b → HasNoneLeft a → HasNoParts b
regs_leave_names regs a b keeps h = record {
  valid = λ stage. keeps (valid_name stage) (regs_apart (valid_name stage) regs refl) (h.valid stage);
  files = λ f. keeps (file_part f) (regs_apart (file_part f) regs refl) (h.files f);
  units = λ u. keeps (unit_part u) (regs_apart (unit_part u) regs refl) (h.units u);
}

all_open : (d : Draft) (regs : List Reg) (ws : List Wire) → Each (IsOpen d) ws → Each (IsOpen (with_regs d regs)) ws
all_open d regs [] h = tt
all_open d regs (w ∷ ws) h = (open_later d (with_regs d regs) w (regs_extend d regs) h.0.free h.0, all_open d regs ws h.1)

pub still_open : (d : Draft) (regs : List Reg) (ws : List Wire) → AreOpen d ws → AreOpen (with_regs d regs) ws
still_open d regs ws h = record { each = all_open d regs ws h.each; apart = h.apart }
