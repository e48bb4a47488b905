-- An operation gives the value of the cell that it is made of, where the values that it reads are those of a solution.
use Rattle.std.proofs.Common.{◌≡◌, ℕ, ◌+◌, ◌-◌, ◌*◌, ◌/◌, ◌%◌, ◌^◌, ◌<◌, ◌≤◌, List, Some, refl, sym, ap, subst, ◌∙◌, arith}
use Rattle.std.specs.Prelude.{slice_index, ◌==◌, if◌then◌else◌, bit_and, bit_or}
use Rattle.std.specs.List.{AllByRecursion as Each}
use Rattle.std.proofs.lemmas.Nat.{or_shifted, and_mask, pow_pos, pow-add}
use Rattle.std.proofs.Math.Nat.{mod-eq_of_lt}
use Rattle.ap_bits.proofs.LowBits.{low_bits, difference_word, power_le}
use Rattle.ap_net.specs.declared.cell.Wire.{Wire}
use Rattle.ap_net.specs.declared.cell.TwoOp.{TwoOp}
use Rattle.ap_net.specs.declared.cell.TwoOp.TheVariants as op
use Rattle.ap_net.specs.declared.cell.Cell.{Cell}
use Rattle.ap_net.specs.declared.cell.Cell.TheVariants as cell
use Rattle.ap_net.specs.declared.net.ModuleNet.{ModuleNet}
use Rattle.ap_net.specs.Cells.{two_value, cell_value, operands, CellFits, FitsTwo}
use Rattle.ap_net.proofs.Lists.{some_same}
use Rattle.ap_eval.specs.declared.op.Shape.{Shape}
use Rattle.ap_eval.specs.Ops.{cell_shape, mask_of, shape_value, two_shape}

mod_small : (x m : ℕ) → x < m → x % m ≡ x
mod_small x m lt = mod-eq_of_lt lt

-- an operator over values below 2 to their widths
two_is : (o : TwoOp) (read : ℕ → ℕ) (load : ℕ → ℕ → ℕ) (w u a b : ℕ) → w ≤ 64 → FitsTwo o w u → read b < 2 ^ u → shape_value read load (two_shape o (mask_of w) a b) ≡ two_value o w (read a) (read b)
two_is op.Add read load w u a b high fit low = low_bits (read a + read b) w high
two_is op.Sub read load w u a b high fit low = low_bits (read a + (2 ^ 64 - read b)) w high ∙ difference_word (read a) (read b) w high (subst (λ n. read b < 2 ^ n) (sym fit) low)
two_is op.And read load w u a b high fit low = refl
two_is op.Or read load w u a b high fit low = refl
two_is op.Xor read load w u a b high fit low = refl
two_is op.Eq read load w u a b high fit low = refl
two_is op.Ltu read load w u a b high fit low = refl

cat_low : (a i j : ℕ) → a < 2 ^ i → i + j ≤ 64 → a * 2 ^ j < 2 ^ 64
cat_low a i j p high =
    let up : (a + 1) * 2 ^ j ≤ 2 ^ i * 2 ^ j = grind arith in
    let some : 0 < 2 ^ j = pow_pos j in
    let top : 2 ^ (i + j) ≤ 2 ^ 64 = power_le (i + j) 64 high in
    let split : 2 ^ (i + j) ≡ 2 ^ i * 2 ^ j = pow-add 2 i j in
    omega arith

cat_is : (a b i j : ℕ) → a < 2 ^ i → b < 2 ^ j → i + j ≤ 64 → bit_or (a * 2 ^ j % 2 ^ 64) b ≡ a * 2 ^ j + b
cat_is a b i j p q high = ap (λ x. bit_or x b) (mod_small (a * 2 ^ j) (2 ^ 64) (cat_low a i j p high)) ∙ or_shifted a j b q

-- what is read of an operand is its value, which fits its width
pub record ReadsAs (values roots : List ℕ) (v : ℕ → ℕ) (o : Wire) : Type 0 where
  pub same : slice_index values (slice_index roots o.number) ≡ v o.number
  pub fits : v o.number < 2 ^ o.width

pub cell_is : (nets : List ModuleNet) (c : Cell) (w : ℕ) → CellFits nets w c → w ≤ 64 → (roots values : List ℕ) (load : ℕ → ℕ → ℕ) (v : ℕ → ℕ) → Each (ReadsAs values roots v) (operands c)
    → (s : Shape) → cell_shape roots w c ≡ Some s → shape_value (slice_index values) load s ≡ cell_value v w c
cell_is nets (cell.Const c) w h high roots values load v each s at = cc
cell_is nets (cell.Copy a) w h high roots values load v each s at = cc
cell_is nets (cell.Not a) w h high roots values load v each s at =
    subst (λ (x : Shape). shape_value (slice_index values) load x ≡ 2 ^ w - 1 - v a.number) (some_same at) (ap (λ x. 2 ^ w - 1 - x) (each.0).same)
cell_is nets (cell.Two o a b) w h high roots values load v each s at =
    let low : slice_index values (slice_index roots b.number) < 2 ^ a.width = subst (λ n. slice_index values (slice_index roots b.number) < 2 ^ n) (sym h.2) (subst (λ x. x < 2 ^ b.width) (sym (each.1.0).same) (each.1.0).fits) in
    subst (λ (x : Shape). shape_value (slice_index values) load x ≡ two_value o w (v a.number) (v b.number)) (some_same at)
    (two_is o (slice_index values) load w a.width (slice_index roots a.number) (slice_index roots b.number) high h.3 low
    ∙ (λ i. two_value o w ((each.0).same i) ((each.1.0).same i)))
cell_is nets (cell.Choose s a b) w h high roots values load v each x at =
    subst (λ (y : Shape). shape_value (slice_index values) load y ≡ (if v s.number == 1 then v a.number else v b.number)) (some_same at)
    (λ i. if ((each.0).same i) == 1 then (each.1.0).same i else (each.1.1.0).same i)
cell_is nets (cell.Cat a b) w h high roots values load v each s at =
    subst (λ (y : Shape). shape_value (slice_index values) load y ≡ v a.number * 2 ^ b.width + v b.number) (some_same at)
    ((λ i. bit_or ((each.0).same i * 2 ^ b.width % 2 ^ 64) ((each.1.0).same i))
    ∙ cat_is (v a.number) (v b.number) a.width b.width (each.0).fits (each.1.0).fits (subst (λ n. n ≤ 64) (sym h.2) high))
cell_is nets (cell.Slice a hi lo) w h high roots values load v each s at =
    let same : w ≡ hi + 1 - lo = omega arith in
    subst (λ (y : Shape). shape_value (slice_index values) load y ≡ (v a.number / 2 ^ lo) % 2 ^ (hi + 1 - lo)) (some_same at)
    (ap (λ x. bit_and (x / 2 ^ lo) (2 ^ w - 1)) (each.0).same ∙ and_mask (v a.number / 2 ^ lo) w ∙ ap (λ n. (v a.number / 2 ^ lo) % 2 ^ n) same)
