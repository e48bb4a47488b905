-- What the cells have after a write.
use Rattle.std.proofs.Common.{◌≡◌, ℕ, zero, suc, ◌+◌, ◌<◌, ◌≤◌, Bool, true, false, List, [], ◌∷◌, ◌++◌, length, flat_map, take, set, get_or, Some, inl, inr, refl, sym, ap, ◌∙◌, arith, ⊎_elim}
use Rattle.std.specs.Prelude.{◌==◌, if◌then◌else◌, slice_get}
use Rattle.std.proofs.Math.ListN.{get_or-append}
use Rattle.std.proofs.Math.Seq.{get_or-append_seam}
use Rattle.std.proofs.lemmas.Bool.{cases_eq, cases_lt, eq-eqb, ne_eqb}
use Rattle.std.proofs.lemmas.List.{ext_get_or, get_or-set_same, get_or-set_other, length-map, length-set, map-append}
use Rattle.std.proofs.lemmas.List.FromFn.{get_or-map-range_with_len}
use Rattle.std.proofs.lemmas.List.Sums.{fold-append}
use Rattle.ap_net.specs.declared.cell.Wire.{Wire}
use Rattle.ap_comb.specs.Choices.{values_of}
use Rattle.ap_comb.proofs.Halves.{value_at}
use Rattle.ap_store.specs.Cells.{CellWrite, after_write, after_writes}
use Rattle.ap_store.specs.FileModules.{write_of}
use Rattle.ap_store.specs.Writers.{hot, one_hot}
use Rattle.ap_store.proofs.Ranges.{flat_map_take}

idle : (t : Bool) (value old : ℕ) → (if (if t then 0 else 0) == 1 then value else old) ≡ old
idle true value old = refl
idle false value old = refl

-- where the line of a cell is 1 it has the value
pub written_cells : (on at value : ℕ) (cells made : List ℕ) → length made ≡ length cells → on < 2 → at < length cells
    → ((j : ℕ) → j < length cells → get_or made j 0 ≡ (if hot on at j == 1 then value else get_or cells j 0)) → made ≡ after_writes cells (write_of on at value)
written_cells zero at value cells made long small within each =
    ext_get_or 0 made cells long (λ j lt. each j (omega arith) ∙ idle (j == at) value (get_or cells j 0))
written_cells (suc zero) at value cells made long small within each =
    ext_get_or 0 made (set cells at value) (long ∙ sym (length-set cells at value)) (λ j lt. elim (cases_eq j at) [
      | inl same ↦
          let test : (j == at) ≡ true = eq-eqb j at same in
          each j (omega arith) ∙ ap (λ t. if (if t then 1 else 0) == 1 then value else get_or cells j 0) test ∙ sym (get_or-set_same cells at value 0 within) ∙ ap (λ k. get_or (set cells at value) k 0) (sym same)
      | inr other ↦
          let test : (j == at) ≡ false = ne_eqb j at other in
          each j (omega arith) ∙ ap (λ t. if (if t then 1 else 0) == 1 then value else get_or cells j 0) test ∙ sym (get_or-set_other cells at j value 0 other)
    ])
written_cells (suc (suc n)) at value cells made long small within each = absurd (omega arith)

-- the writes of one more port
pub writes_more : (f : ℕ → List CellWrite) (order : List ℕ) (i d : ℕ) (cells before after : List ℕ) → i < length order → before ≡ after_writes cells (flat_map f (take i order)) → after ≡ after_writes before (f (get_or order i d))
    → after ≡ after_writes cells (flat_map f (take (i + 1) order))
writes_more f order i d cells before after lt was is =
    is ∙ ap (λ c. after_writes c (f (get_or order i d))) was ∙ sym (fold-append after_write cells (flat_map f (take i order)) (f (get_or order i d))) ∙ ap (after_writes cells) (sym (flat_map_take f order i d lt))

-- one cell more
pub chosen_more : (read : ℕ → ℕ) (lines cells made : List Wire) (i value : ℕ) (line cell next : Wire) → length made ≡ i → slice_get lines i ≡ Some line → slice_get cells i ≡ Some cell
    → read next.number ≡ (if read line.number == 1 then value else read cell.number)
    → ((j : ℕ) → j < i → get_or (values_of read made) j 0 ≡ (if get_or (values_of read lines) j 0 == 1 then value else get_or (values_of read cells) j 0))
    → (j : ℕ) → j < i + 1 → get_or (values_of read (made ++ next ∷ [])) j 0 ≡ (if get_or (values_of read lines) j 0 == 1 then value else get_or (values_of read cells) j 0)
chosen_more read lines cells made i value line cell next long at_line at_cell is before j lt =
    let joined = map-append (λ (w : Wire). read w.number) made (next ∷ []) in
    let many : length (values_of read made) ≡ length made = length-map made (λ (w : Wire). read w.number) in
    ap (λ l. get_or l j 0) joined
    ∙ ⊎_elim
    (λ (below : j < i). get_or-append (values_of read made) (read next.number ∷ []) 0 j (omega arith) ∙ before j below)
    (λ (above : i ≤ j).
    let last : j ≡ length (values_of read made) = omega arith in
    let here : i ≡ j = omega arith in
    ap (λ k. get_or (values_of read made ++ read next.number ∷ []) k 0) last ∙ get_or-append_seam (values_of read made) (read next.number) [] 0 ∙ is
    ∙ (λ k. if sym (value_at read lines i line at_line) k == 1 then value else sym (value_at read cells i cell at_cell) k)
    ∙ ap (λ k. if get_or (values_of read lines) k 0 == 1 then value else get_or (values_of read cells) k 0) here)
    (cases_lt j i)

-- all cells
pub chosen_all : (read : ℕ → ℕ) (lines cells made : List Wire) (on at value count : ℕ) → values_of read lines ≡ one_hot on at count → length made ≡ length cells → length cells ≡ count → on < 2 → at < count
    → ((j : ℕ) → j < count → get_or (values_of read made) j 0 ≡ (if get_or (values_of read lines) j 0 == 1 then value else get_or (values_of read cells) j 0))
    → values_of read made ≡ after_writes (values_of read cells) (write_of on at value)
chosen_all read lines cells made on at value count hots long all small within each =
    let made_long : length (values_of read made) ≡ length made = length-map made (λ (w : Wire). read w.number) in
    let cells_long : length (values_of read cells) ≡ length cells = length-map cells (λ (w : Wire). read w.number) in
    written_cells on at value (values_of read cells) (values_of read made) (omega arith) small (omega arith) (λ j lt.
    each j (omega arith)
    ∙ ap (λ l. if get_or l j 0 == 1 then value else get_or (values_of read cells) j 0) hots
    ∙ ap (λ h. if h == 1 then value else get_or (values_of read cells) j 0) (get_or-map-range_with_len (hot on at) 0 count j j 0 (omega arith) (omega arith)))
