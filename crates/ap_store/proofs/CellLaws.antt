-- The cells after writes, one by one.
use Rattle.std.proofs.Common.{◌≡◌, ◌≢◌, ℕ, ◌<◌, true, false, List, [], ◌∷◌, length, fold, set, get_or, inl, inr, refl, sym, ap, ◌∙◌, arith}
use Rattle.std.specs.Prelude.{◌==◌, if◌then◌else◌}
use Rattle.std.proofs.lemmas.Bool.{cases_eq, eq-eqb, ne_eqb}
use Rattle.std.proofs.lemmas.List.{get_or-set_same, get_or-set_other, length-set}
use Rattle.ap_store.specs.Cells.{CellWrite, CellsGoAlone, after_write, cell_after}

one_write : (cells : List ℕ) (write : CellWrite) (index : ℕ) → index < length cells → get_or (after_write cells write) index 0 ≡ cell_after index (get_or cells index 0) write
one_write cells write index lt = elim (cases_eq write.at index) [
  | inl same ↦
      let test : (write.at == index) ≡ true = eq-eqb write.at index same in
      let within : write.at < length cells = omega arith in
      ap (λ k. get_or (set cells write.at write.value) k 0) (sym same) ∙ get_or-set_same cells write.at write.value 0 within ∙ sym (ap (λ t. if t then write.value else get_or cells index 0) test)
  | inr other ↦
      let test : (write.at == index) ≡ false = ne_eqb write.at index other in
      let apart : index ≢ write.at = λ e. other (sym e) in
      get_or-set_other cells write.at index write.value 0 apart ∙ sym (ap (λ t. if t then write.value else get_or cells index 0) test)
]

pub cells_go_alone : CellsGoAlone
cells_go_alone cells [] = (refl, λ index lt. refl)
cells_go_alone cells (write ∷ writes) =
    let long : length (set cells write.at write.value) ≡ length cells = length-set cells write.at write.value in
    let rest = cells_go_alone (after_write cells write) writes in
    (rest.0 ∙ long, λ index lt. rest.1 index (omega arith) ∙ ap (λ v. fold (cell_after index) v writes) (one_write cells write index lt))
