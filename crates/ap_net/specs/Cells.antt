-- What cells mean, by IEEE 1364 on unsigned two-valued nets, and which widths they need.
use Rattle.std.specs.Prelude.{◌≡◌, ℕ, ◌+◌, ◌-◌, ◌*◌, ◌/◌, ◌%◌, ◌^◌, ◌<◌, ◌≤◌, List, [], ◌∷◌, bit_and, bit_or, bit_xor, slice_get, map, Some, ◌==◌, nat_lt, if◌then◌else◌}
use Rattle.ap_net.specs.declared.cell.Wire.{Wire}
use Rattle.ap_net.specs.declared.cell.TwoOp.{TwoOp}
use Rattle.ap_net.specs.declared.cell.TwoOp.TheVariants as op
use Rattle.ap_net.specs.declared.cell.Cell.{Cell}
use Rattle.ap_net.specs.declared.cell.Cell.TheVariants as cell
use Rattle.ap_net.specs.declared.net.ModuleNet.{ModuleNet}

-- the value of an operator on nets whose result has w bits
abbrev pub two_value : TwoOp → ℕ → ℕ → ℕ → ℕ
two_value op.Add w a b = (a + b) % 2 ^ w
two_value op.Sub w a b = (a + 2 ^ w - b) % 2 ^ w
two_value op.And w a b = bit_and a b
two_value op.Or w a b = bit_or a b
two_value op.Xor w a b = bit_xor a b
two_value op.Eq w a b = if a == b then 1 else 0
two_value op.Ltu w a b = if nat_lt a b then 1 else 0

-- the value of a cell whose result has w bits, where read gives the value of each net by its number
abbrev pub cell_value : (ℕ → ℕ) → ℕ → Cell → ℕ
cell_value read w (cell.Const c) = c
cell_value read w (cell.Copy a) = read a.number
cell_value read w (cell.Not a) = 2 ^ w - 1 - read a.number
cell_value read w (cell.Two o a b) = two_value o w (read a.number) (read b.number)
cell_value read w (cell.Choose s a b) = if read s.number == 1 then read a.number else read b.number
cell_value read w (cell.Cat a b) = read a.number * 2 ^ b.width + read b.number
cell_value read w (cell.Slice a h l) = (read a.number / 2 ^ l) % 2 ^ (h + 1 - l)

-- the nets that a cell reads
abbrev pub operands : Cell → List Wire
operands (cell.Const c) = []
operands (cell.Copy a) = a ∷ []
operands (cell.Not a) = a ∷ []
operands (cell.Two o a b) = a ∷ b ∷ []
operands (cell.Choose s a b) = s ∷ a ∷ b ∷ []
operands (cell.Cat a b) = a ∷ b ∷ []
operands (cell.Slice a h l) = a ∷ []

abbrev pub widths_of : List ModuleNet → List ℕ
widths_of nets = map (λ n. n.width) nets

-- the net is declared with this width, which is from 1 to 64
pub record IsNet (nets : List ModuleNet) (w : Wire) : Type 0 where
  pub declared : slice_get (widths_of nets) w.number ≡ Some w.width
  pub low : 1 ≤ w.width
  pub high : w.width ≤ 64

-- both are declared, with one width
pub record AreOfOneWidth (nets : List ModuleNet) (a b : Wire) : Type 0 where
  pub first : IsNet nets a
  pub second : IsNet nets b
  pub same : b.width ≡ a.width

-- a comparison gives one bit, any other operator a result as wide as its operands
abbrev pub FitsTwo : TwoOp → ℕ → ℕ → Type 0
FitsTwo op.Eq to w = to ≡ 1
FitsTwo op.Ltu to w = to ≡ 1
FitsTwo o to w = to ≡ w

-- the cell's operands are declared, and the widths are those of its operator for a result of w bits
abbrev pub CellFits : List ModuleNet → ℕ → Cell → Type 0
CellFits nets w (cell.Const c) = c < 2 ^ w
CellFits nets w (cell.Copy a) = IsNet nets a × (a.width ≡ w)
CellFits nets w (cell.Not a) = IsNet nets a × (a.width ≡ w)
CellFits nets w (cell.Two o a b) = IsNet nets a × IsNet nets b × (a.width ≡ b.width) × FitsTwo o w a.width
CellFits nets w (cell.Choose s a b) = IsNet nets s × IsNet nets a × IsNet nets b × (s.width ≡ 1) × (a.width ≡ w) × (b.width ≡ w)
CellFits nets w (cell.Cat a b) = IsNet nets a × IsNet nets b × (a.width + b.width ≡ w)
CellFits nets w (cell.Slice a h l) = IsNet nets a × (l ≤ h) × (h < a.width) × (h + 1 ≡ l + w)
