-- The right sides of assigns by numbers: their operands are declared, and have the widths that the operator needs.
use Rattle.std.proofs.Common.{◌≡◌, ℕ, ◌+◌, ◌<◌, ◌^◌, ◌==◌, ◌&&◌, Bool, true, nat_le, nat_lt, List, sym, subst}
use Rattle.std.proofs.lemmas.Bool.{and_parts, eqb-true, leb-true, ltb-true}
use Rattle.ap_net.specs.declared.cell.TwoOp.{TwoOp}
use Rattle.ap_net.specs.declared.cell.TwoOp.TheVariants as op
use Rattle.ap_net.specs.declared.cell.Wire.{Wire}
use Rattle.ap_net.specs.declared.net.ModuleNet.{ModuleNet}
use Rattle.ap_net.specs.Cells.{CellFits, FitsTwo, IsNet}
use Rattle.ap_vr.specs.declared.line.Right.{Right}
use Rattle.ap_vr.specs.declared.line.Right.TheVariants as right
use Rattle.ap_vr.specs.Built.{cell_of}
use Rattle.ap_vr.specs.LineTexts.{IsOperand, IsRight}
use Rattle.ap_vr.specs.Scope.{knows_right}
use Rattle.ap_vr.specs.Widths.{result_bits, right_fits}

two_fits : (o : TwoOp) (w bits : ℕ) → result_bits o w ≡ bits → FitsTwo o bits w
two_fits op.Add w bits e = sym e
two_fits op.Sub w bits e = sym e
two_fits op.And w bits e = sym e
two_fits op.Or w bits e = sym e
two_fits op.Xor w bits e = sym e
two_fits op.Eq w bits e = sym e
two_fits op.Ltu w bits e = sym e

module _ (nets : List ModuleNet) (known : List ℕ → Bool) (wire : List ℕ → Wire) (declared : (name : List ℕ) → IsOperand name → known name ≡ true → IsNet nets (wire name)) where
  pub cell_fits : (bits : ℕ) (r : Right) → IsRight r → knows_right known r ≡ true → right_fits (λ a. (wire a).width) bits r ≡ true → CellFits nets bits (cell_of wire r)
  cell_fits bits (right.Const w value) is k f =
      let both = and_parts (w == bits) (nat_lt value (2 ^ w)) f in
      subst (λ v. value < 2 ^ v) (eqb-true w bits both.0) (ltb-true value (2 ^ w) both.1)
  cell_fits bits (right.Copy a) is k f = (declared a is k, eqb-true (wire a).width bits f)
  cell_fits bits (right.Not a) is k f = (declared a is k, eqb-true (wire a).width bits f)
  cell_fits bits (right.Two o a b) is k f =
      let ab = and_parts (known a) (known b) k in
      let both = and_parts ((wire a).width == (wire b).width) (result_bits o (wire a).width == bits) f in
      (declared a is.0 ab.0, declared b is.1 ab.1, eqb-true (wire a).width (wire b).width both.0, two_fits o (wire a).width bits (eqb-true (result_bits o (wire a).width) bits both.1))
  cell_fits bits (right.Choose s a b) is k f =
      let sab = and_parts (known s && known a) (known b) k in
      let sa = and_parts (known s) (known a) sab.0 in
      let all = and_parts (((wire s).width == 1) && ((wire a).width == bits)) ((wire b).width == bits) f in
      let two = and_parts ((wire s).width == 1) ((wire a).width == bits) all.0 in
      (declared s is.0 sa.0, declared a is.1 sa.1, declared b is.2 sab.1, eqb-true (wire s).width 1 two.0, eqb-true (wire a).width bits two.1, eqb-true (wire b).width bits all.1)
  cell_fits bits (right.Cat a b) is k f =
      let ab = and_parts (known a) (known b) k in
      (declared a is.0 ab.0, declared b is.1 ab.1, eqb-true ((wire a).width + (wire b).width) bits f)
  cell_fits bits (right.Slice a h l) is k f =
      let all = and_parts (nat_le l h && nat_lt h (wire a).width) ((h + 1) == (l + bits)) f in
      let two = and_parts (nat_le l h) (nat_lt h (wire a).width) all.0 in
      (declared a is.0 k, leb-true l h two.0, ltb-true h (wire a).width two.1, eqb-true (h + 1) (l + bits) all.1)
