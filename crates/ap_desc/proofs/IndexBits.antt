-- A file's cells are two to the power of its index bits.
use Rattle.std.proofs.Common.{◌≡◌, ℕ, ◌+◌, ◌*◌, ◌^◌, ◌<◌, ◌≤◌, true, List, [], ◌∷◌, length, Some, inl, inr, refl, sym, ap, ◌∙◌, arith, leb-true, eqb-true, eq-eqb, pow_pos, pow_mono}
use Rattle.std.specs.Prelude.{◌↔◌, ◌&&◌, nat_le, Contains, IsTrue, slice_get}
use Rattle.std.specs.List.{AllByRecursion as Each, list_all, list_any}
use Rattle.std.specs.Option.{option_map_or}
use Rattle.std.proofs.lemmas.Bool.{and_parts, cases_order, or_cases}
use Rattle.std.proofs.lemmas.Nat.{pow-add}
use Rattle.ap_bits.specs.Cards.{select_width_for}
use Rattle.ap_desc.proofs.Behind.{contained_passes}
use Rattle.ap_desc.proofs.Members.{get_in, in_contains}
use Rattle.ap_desc.specs.Designs.{index_bits, is_cell_count, is_file_within, is_width, is_between, width_at}
use Rattle.ap_desc.specs.Sound.{IsSound}
use Rattle.ap_desc.specs.Widths.{is_index}
use Rattle.ap_desc.specs.declared.design.Design.{Design}
use Rattle.ap_desc.specs.declared.design.File.{File}

equal_power : (cells b : ℕ) → (nat_le cells (2 ^ b) && nat_le (2 ^ b) cells) ≡ true → select_width_for (2 ^ b) ≡ b → 2 ^ select_width_for cells ≡ cells
equal_power cells b e own =
    let parts = and_parts (nat_le cells (2 ^ b)) (nat_le (2 ^ b) cells) e in
    let below : cells ≤ 2 ^ b = leb-true cells (2 ^ b) parts.0 in
    let above : 2 ^ b ≤ cells = leb-true (2 ^ b) cells parts.1 in
    let same : cells ≡ 2 ^ b = omega arith in
    ap (λ n. 2 ^ select_width_for n) same ∙ ap (λ n. 2 ^ n) own ∙ sym same

power_among : (cells : ℕ) (bits : List ℕ) → Each (λ b. select_width_for (2 ^ b) ≡ b) bits → list_any (λ b. nat_le cells (2 ^ b) && nat_le (2 ^ b) cells) bits ≡ true
    → 2 ^ select_width_for cells ≡ cells
power_among cells [] own e = absurd cc
power_among cells (b ∷ bits) own e = elim (or_cases (nat_le cells (2 ^ b) && nat_le (2 ^ b) cells) (list_any (λ b. nat_le cells (2 ^ b) && nat_le (2 ^ b) cells) bits) e) [
  | inl here ↦ equal_power cells b here own.0
  | inr later ↦ power_among cells bits own.1 later
]

power_of_cells : (cells : ℕ) → is_cell_count cells ≡ true → 2 ^ select_width_for cells ≡ cells
power_of_cells cells e =
    power_among cells (1 ∷ 2 ∷ 3 ∷ 4 ∷ 5 ∷ 6 ∷ []) (refl, (refl, (refl, (refl, (refl, (refl, tt)))))) (and_parts (is_between 2 64 cells) _ e).1

pub bits_of_cells : (design : Design) (file : File) → IsSound design → Contains design.files file → 2 ^ index_bits file ≡ file.cells
bits_of_cells design file sound there =
    let each = (and_parts (nat_le (length design.files) 8) (list_all is_file_within design.files) sound.within.files).1 in
    let shape = contained_passes is_file_within design.files file each there in
    let cells = (and_parts (is_width file.width) (is_cell_count file.cells) (and_parts _ (is_between 1 4 file.reads) (and_parts _ (is_between 1 2 file.writes) shape).0).0).1 in
    power_of_cells file.cells cells

-- no power is that of two numbers
power_grows : (a b : ℕ) → a < b → 2 ^ a < 2 ^ b
power_grows a b below =
    let positive : 0 < 2 ^ a = pow_pos a in
    let next : 2 ^ (a + 1) ≡ 2 ^ a * 2 ^ 1 = pow-add 2 a 1 in
    let up : 2 ^ (a + 1) ≤ 2 ^ b = pow_mono (omega arith) in
    omega arith

same_power : (a b : ℕ) → 2 ^ a ≡ 2 ^ b → a ≡ b
same_power a b e = elim (cases_order a b) [
  | inl same ↦ same
  | inr (inl below) ↦ let up = power_grows a b below in absurd (omega arith)
  | inr (inr above) ↦ let down = power_grows b a above in absurd (omega arith)
]

-- an index has so many bits
pub index_has_bits : (design : Design) (place : ℕ) (file : File) (bits : ℕ) → IsSound design → slice_get design.files place ≡ Some file → IsTrue (is_index design place bits) ↔ (bits ≡ index_bits file)
index_has_bits design place file bits sound at = (there, back) where
  cells : width_at (λ (f : File). f.cells) design.files place ≡ 2 ^ index_bits file
  cells = ap (λ o. option_map_or (λ (f : File). f.cells) o 0) at ∙ sym (bits_of_cells design file sound (in_contains design.files file (get_in design.files place file at)))

  there : IsTrue (is_index design place bits) → bits ≡ index_bits file
  there e = same_power bits (index_bits file) (eqb-true (2 ^ bits) (width_at (λ (f : File). f.cells) design.files place) e ∙ cells)

  back : bits ≡ index_bits file → IsTrue (is_index design place bits)
  back e = eq-eqb (2 ^ bits) (width_at (λ (f : File). f.cells) design.files place) (ap (λ n. 2 ^ n) e ∙ sym cells)
