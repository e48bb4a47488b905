-- What the limits of a file say of its numbers.
use Rattle.std.proofs.Common.{◌≡◌, ℕ, ◌^◌, ◌≤◌, lit≤, true, List, [], ◌∷◌, inl, inr, refl, subst, arith, leb-true}
use Rattle.std.specs.Prelude.{◌&&◌, nat_le, IsTrue}
use Rattle.std.specs.List.{AllByRecursion as Each, list_any}
use Rattle.std.specs.Int.Count.{count_trailing_zeros}
use Rattle.std.proofs.lemmas.Bool.{and_parts, or_cases}
use Rattle.ap_bits.specs.Cards.{select_width_for}
use Rattle.ap_desc.specs.declared.design.File.{File}
use Rattle.ap_desc.specs.Designs.{index_bits, is_between, is_cell_count, is_file_within, is_width}

-- a power of two with one to six bits
record IsCount (cells : ℕ) : Type 0 where
  counted : count_trailing_zeros 32 cells ≡ select_width_for cells
  power : 2 ^ select_width_for cells ≡ cells
  low : 1 ≤ select_width_for cells
  high : select_width_for cells ≤ 6

power_among : (P : ℕ → Type 0) (cells : ℕ) (bits : List ℕ) → Each (λ b. P (2 ^ b)) bits → list_any (λ b. nat_le cells (2 ^ b) && nat_le (2 ^ b) cells) bits ≡ true → P cells
power_among P cells [] each e = absurd cc
power_among P cells (b ∷ bits) each e = elim (or_cases (nat_le cells (2 ^ b) && nat_le (2 ^ b) cells) (list_any (λ b. nat_le cells (2 ^ b) && nat_le (2 ^ b) cells) bits) e) [
  | inl here ↦
      let parts = and_parts (nat_le cells (2 ^ b)) (nat_le (2 ^ b) cells) here in
      let below : cells ≤ 2 ^ b = leb-true cells (2 ^ b) parts.0 in
      let above : 2 ^ b ≤ cells = leb-true (2 ^ b) cells parts.1 in
      let same : 2 ^ b ≡ cells = omega arith in
      subst P same each.0
  | inr later ↦ power_among P cells bits each.1 later
]

counts : (cells : ℕ) → is_cell_count cells ≡ true → IsCount cells
unfolding count_trailing_zeros
counts cells e =
    power_among IsCount cells (1 ∷ 2 ∷ 3 ∷ 4 ∷ 5 ∷ 6 ∷ []) (
      record { counted = refl; power = refl; low = lit≤ tt; high = lit≤ tt },
      (
        record { counted = refl; power = refl; low = lit≤ tt; high = lit≤ tt },
        (
          record { counted = refl; power = refl; low = lit≤ tt; high = lit≤ tt },
          (
            record { counted = refl; power = refl; low = lit≤ tt; high = lit≤ tt },
            (
              record { counted = refl; power = refl; low = lit≤ tt; high = lit≤ tt },
              (record { counted = refl; power = refl; low = lit≤ tt; high = lit≤ tt }, tt),
            ),
          ),
        ),
      ),
    )
    (and_parts (is_between 2 64 cells) _ e).1

-- the numbers of a file that is within the limits
pub record HasShape (file : File) : Type 0 where
  pub low : 1 ≤ file.width
  pub high : file.width ≤ 64
  pub counted : count_trailing_zeros 32 file.cells ≡ index_bits file
  pub power : 2 ^ index_bits file ≡ file.cells
  pub some_bits : 1 ≤ index_bits file
  pub few_bits : index_bits file ≤ 6
  pub some_reads : 1 ≤ file.reads
  pub few_reads : file.reads ≤ 4
  pub few_writes : file.writes ≤ 2
  pub few_cells : file.cells ≤ 64
  pub some_cells : 2 ≤ file.cells

pub shape_of : (file : File) → IsTrue (is_file_within file) → HasShape file
shape_of file h =
    let all = and_parts _ (is_between 1 2 file.writes) h in
    let three = and_parts _ (is_between 1 4 file.reads) all.0 in
    let two = and_parts (is_width file.width) (is_cell_count file.cells) three.0 in
    let width = and_parts (nat_le 1 file.width) (nat_le file.width 64) two.0 in
    let reads = and_parts (nat_le 1 file.reads) (nat_le file.reads 4) three.1 in
    let writes = and_parts (nat_le 1 file.writes) (nat_le file.writes 2) all.1 in
    let some = and_parts (is_between 2 64 file.cells) _ two.1 in
    let cells = and_parts (nat_le 2 file.cells) (nat_le file.cells 64) some.0 in
    let count = counts file.cells two.1 in
    record {
      low = leb-true 1 file.width width.0;
      high = leb-true file.width 64 width.1;
      counted = count.counted;
      power = count.power;
      some_bits = count.low;
      few_bits = count.high;
      some_reads = leb-true 1 file.reads reads.0;
      few_reads = leb-true file.reads 4 reads.1;
      few_writes = leb-true file.writes 2 writes.1;
      few_cells = leb-true file.cells 64 cells.1;
      some_cells = leb-true 2 file.cells cells.0;
    }
