-- The write groups of a design's registers and files.
use Rattle.std.proofs.Common.{◌≡◌, ℕ, zero, suc, ◌<◌, ◌≤◌, Bool, true, List, [], ◌∷◌, length, Option, Some, None, sym, ap, subst, ◌∙◌, arith, ⊎_elim}
use Rattle.std.specs.Prelude.{slice_get, nat_le}
use Rattle.std.specs.List.{list_all}
use Rattle.std.specs.Option.{option_map_or}
use Rattle.std.proofs.lemmas.Bool.{and_parts, cases_lt, leb-true}
use Rattle.std.proofs.lemmas.Option.{slice_get_past}
use Rattle.ap_desc.specs.Clean.{IsClean}
use Rattle.ap_desc.specs.Designs.{is_file_within, is_reg_within}
use Rattle.ap_desc.specs.declared.design.Design.{Design}
use Rattle.ap_desc.specs.declared.design.File.{File}
use Rattle.ap_desc.specs.declared.design.Reg.{Reg}
use Rattle.ap_model.specs.declared.storage.WritePort.TheVariants as port
use Rattle.ap_net.specs.Draft.{Draft}
use Rattle.ap_net.specs.Outside.{Group}
use Rattle.ap_signals.specs.DesignOutside.{file_group, group_of, group_of_file, reg_group}
use Rattle.ap_front.specs.Ports.{CanDeclare, group_ports_of, ports_of_group}

abbrev pub no_reg_group : Group
no_reg_group = record { storage = []; port = None; width = 0 }

abbrev pub no_file_group : ℕ → Group
no_file_group number = record { storage = []; port = Some (record { number = number; index = 0 }); width = 0 }

pub register_group : (design : Design) (reg : ℕ) (r : Reg) → slice_get design.regs reg ≡ Some r → group_of design (port.Register reg) ≡ reg_group r
register_group design reg r at = ap (λ (o : Option Reg). option_map_or reg_group o no_reg_group) at

pub cell_group : (design : Design) (file number : ℕ) (f : File) → slice_get design.files file ≡ Some f → group_of design (port.Cell file number) ≡ file_group number f
cell_group design file number f at = ap (group_of_file number) at

pub reg_there : (design : Design) (reg : ℕ) (d : Draft) → CanDeclare (group_ports_of design (port.Register reg)) d → reg < length design.regs
reg_there design reg d h = ⊎_elim (λ lt. lt) (λ le.
    let none : group_of design (port.Register reg) ≡ no_reg_group = ap (λ (o : Option Reg). option_map_or reg_group o no_reg_group) (slice_get_past design.regs reg le) in
    let low : 1 ≤ 0 = (subst (λ (g : Group). CanDeclare (ports_of_group g) d) none h).each.1.0.low in
    absurd (omega arith)) (cases_lt reg (length design.regs))

pub file_there : (design : Design) (file number : ℕ) (d : Draft) → CanDeclare (group_ports_of design (port.Cell file number)) d → file < length design.files
file_there design file number d h = ⊎_elim (λ lt. lt) (λ le.
    let none : group_of design (port.Cell file number) ≡ no_file_group number = ap (group_of_file number) (slice_get_past design.files file le) in
    let low : 1 ≤ 0 = (subst (λ (g : Group). CanDeclare (ports_of_group g) d) none h).each.1.0.low in
    absurd (omega arith)) (cases_lt file (length design.files))

pub all_at : {X : Type 0} (t : X → Bool) (xs : List X) (i : ℕ) (x : X) → list_all t xs ≡ true → slice_get xs i ≡ Some x → t x ≡ true
all_at t [] i x h at = cc
all_at t (y ∷ xs) zero x h at = let same : y ≡ x = cc in ap t (sym same) ∙ (and_parts (t y) (list_all t xs) h).0
all_at t (y ∷ xs) (suc i) x h at = all_at t xs i x (and_parts (t y) (list_all t xs) h).1 at

pub file_within : (design : Design) (file : ℕ) (f : File) → IsClean design → slice_get design.files file ≡ Some f → is_file_within f ≡ true
file_within design file f clean at = all_at is_file_within design.files file f (and_parts (nat_le (length design.files) 8) (list_all is_file_within design.files) clean.sound.within.files).1 at

pub files_few : (design : Design) → IsClean design → length design.files ≤ 8
files_few design clean = leb-true (length design.files) 8 (and_parts (nat_le (length design.files) 8) (list_all is_file_within design.files) clean.sound.within.files).0

pub regs_few : (design : Design) → IsClean design → length design.regs ≤ 64
regs_few design clean = leb-true (length design.regs) 64 (and_parts (nat_le (length design.regs) 64) (list_all is_reg_within design.regs) clean.sound.within.regs).0
