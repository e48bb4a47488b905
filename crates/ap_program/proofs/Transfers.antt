-- Whether an instruction is a transfer.
use Rattle.std.proofs.Common.{◌≡◌, ℕ, ◌<◌, ◌≤◌, false, List, length, get_or, Some, refl, sym, ap, ◌∙◌}
use Rattle.std.specs.Prelude.{slice_get}
use Rattle.std.specs.List.{list_any}
use Rattle.std.specs.Option.{option_map_or}
use Rattle.std.proofs.lemmas.Option.{slice_get_past, slice_get_read}
use Rattle.ap_desc.specs.Ports.{is_transfer}
use Rattle.ap_desc.specs.declared.design.Design.{Design}
use Rattle.ap_desc.specs.declared.design.Instr.{Instr}
use Rattle.ap_desc.specs.declared.design.Micro.{Micro}
use Rattle.ap_dist.specs.Places.{does_transfer}

pub transfer_there : (design : Design) (place : ℕ) (instr : Instr) → slice_get design.instrs place ≡ Some instr → list_any (λ (m : Micro). is_transfer m.act) instr.micros ≡ does_transfer design place
transfer_there design place instr at = sym (ap (λ o. option_map_or (λ (i : Instr). list_any (λ (m : Micro). is_transfer m.act) i.micros) o false) at)

pub transfer_past : (design : Design) (place : ℕ) → length design.instrs ≤ place → false ≡ does_transfer design place
transfer_past design place le = sym (ap (λ o. option_map_or (λ (i : Instr). list_any (λ (m : Micro). is_transfer m.act) i.micros) o false) (slice_get_past design.instrs place le))

-- what is read at an index
pub there_read : {X : Type 0} (xs items : List X) (i : ℕ) (x : X) → items ≡ xs → i < length xs → x ≡ get_or items i x → slice_get xs i ≡ Some x
there_read xs items i x same lt is = slice_get_read xs (length xs) i x refl lt (is ∙ ap (λ ys. get_or ys i x) same)
