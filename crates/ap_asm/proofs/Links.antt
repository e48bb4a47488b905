-- Whether an instruction reads the address behind its slots, and where one that does comes back to.
use Rattle.std.proofs.Common.{◌≡◌, ℕ, zero, suc, ◌-◌, ◌<◌, ◌≤◌, ◌&&◌, false, List, length, get_or, Some, None, refl, sym, ap, ◌∙◌, arith}
use Rattle.std.specs.Prelude.{slice_get}
use Rattle.std.specs.List.{list_any}
use Rattle.std.specs.Option.{option_map_or}
use Rattle.std.proofs.lemmas.Option.{slice_get_past, slice_get_read}
use Rattle.ap_desc.specs.Chains.{operands_of}
use Rattle.ap_desc.specs.declared.design.Design.{Design}
use Rattle.ap_desc.specs.declared.design.Instr.{Instr}
use Rattle.ap_desc.specs.declared.design.Micro.{Micro}
use Rattle.ap_dist.specs.Places.{does_transfer, is_link, is_returned_to, reads_link}
use Rattle.ap_dist.specs.declared.source.Group.{Group}
use Rattle.ap_dist.specs.declared.source.Source.{Source}

pub link_there : (design : Design) (place : ℕ) (instr : Instr) → slice_get design.instrs place ≡ Some instr → list_any (λ (m : Micro). list_any is_link (operands_of m.act)) instr.micros ≡ reads_link design place
link_there design place instr at = sym (ap (λ o. option_map_or (λ (i : Instr). list_any (λ (m : Micro). list_any is_link (operands_of m.act)) i.micros) o false) at)

pub link_past : (design : Design) (place : ℕ) → length design.instrs ≤ place → false ≡ reads_link design place
link_past design place le = sym (ap (λ o. option_map_or (λ (i : Instr). list_any (λ (m : Micro). list_any is_link (operands_of m.act)) i.micros) o false) (slice_get_past design.instrs place le))

-- what is read at an index
pub there_read : {X : Type 0} (xs items : List X) (i : ℕ) (x : X) → items ≡ xs → i < length xs → x ≡ get_or items i x → slice_get xs i ≡ Some x
there_read xs items i x same lt is = slice_get_read xs (length xs) i x refl lt (is ∙ ap (λ ys. get_or ys i x) same)

-- the group before is such a transfer
pub returned_there : (design : Design) (source : Source) (g : ℕ) (x : Group) → 1 ≤ g → slice_get source.groups (g - 1) ≡ Some x → (does_transfer design x.first.instr && reads_link design x.first.instr) ≡ is_returned_to design source g
returned_there design source zero x le at = absurd (omega arith)
returned_there design source (suc g) x le at =
    sym (ap (λ o. option_map_or (λ (y : Group). does_transfer design y.first.instr && reads_link design y.first.instr) o false) (ap (slice_get source.groups) (let e : g ≡ suc g - 1 = omega arith in e) ∙ at))

pub returned_none : (design : Design) (source : Source) (g : ℕ) → 1 ≤ g → slice_get source.groups (g - 1) ≡ None → false ≡ is_returned_to design source g
returned_none design source zero le at = absurd (omega arith)
returned_none design source (suc g) le at =
    sym (ap (λ o. option_map_or (λ (y : Group). does_transfer design y.first.instr && reads_link design y.first.instr) o false) (ap (slice_get source.groups) (let e : g ≡ suc g - 1 = omega arith in e) ∙ at))

pub returned_first : (design : Design) (source : Source) (g : ℕ) → g ≡ 0 → false ≡ is_returned_to design source g
returned_first design source zero e = refl
returned_first design source (suc g) e = absurd (omega arith)
