-- The value of the tests' own kind, as that of its card's operation.
use Rattle.std.proofs.Common.{◌≡◌, ℕ, zero, suc, ◌+◌, ◌-◌, ◌*◌, ◌%◌, ◌^◌, ◌<◌, ◌≤◌, [], ◌∷◌, sym, ap, ◌∙◌, arith}
use Rattle.std.specs.Prelude.{bit_and, bit_xor, codes}
use Rattle.std.proofs.lemmas.Nat.{pow_pos, pow-add, mod_low}
use Rattle.ap_bits.specs.declared.term.BinOp.TheVariants.{And, Xor}
use Rattle.ap_bits.specs.declared.term.Term.{Bin, A, B, Const}
use Rattle.ap_bits.specs.declared.card.Card.{Card}
use Rattle.ap_bits.specs.declared.card.Widths.TheVariants.{Any}
use Rattle.ap_bits.specs.declared.card.Latency.TheVariants.{One}
use Rattle.ap_bits.proofs.TermValues.{term_value-const, term_value-bin}
use Rattle.ap_net.specs.declared.cell.Wire.{Wire}
use Rattle.ap_net.specs.Draft.{Draft, SettlesDraft}
use Rattle.ap_unit.specs.declared.pieces.Inputs.{Inputs}
use Rattle.ap_bits.specs.Cards.{operation_value}
use Rattle.ap_unit.specs.Pieces.{HasValue}
use Rattle.ap_comb.proofs.KindValues.{on_both_value}

abbrev pub nand_card : Card
nand_card = record { name = codes "nand"; ops = record { name = codes "nand"; term = Bin Xor (Bin And A B) (Const 18446744073709551615) } ∷ []; widths = Any; latency = One }

-- the lowest bits of 64 ones
low_ones : (w : ℕ) → w ≤ 64 → 18446744073709551615 % 2 ^ w ≡ 2 ^ w - 1
low_ones w high =
    let width : (64 - w) + w ≡ 64 = omega arith in
    let product : 2 ^ 64 ≡ 2 ^ (64 - w) * 2 ^ w = ap (λ n. 2 ^ n) (sym width) ∙ pow-add 2 (64 - w) w in
    let some = pow_pos (64 - w) in
    let some_low = pow_pos w in
    let one_less : 2 ^ (64 - w) ≡ (2 ^ (64 - w) - 1) + 1 = omega arith in
    let scaled : 2 ^ (64 - w) * 2 ^ w ≡ (2 ^ (64 - w) - 1) * 2 ^ w + 2 ^ w = ap (λ n. n * 2 ^ w) one_less ∙ omega arith in
    let parts : 18446744073709551615 ≡ (2 ^ (64 - w) - 1) * 2 ^ w + (2 ^ w - 1) = omega arith in
    ap (λ n. n % 2 ^ w) parts ∙ mod_low (2 ^ (64 - w) - 1) w (2 ^ w - 1) (omega arith)

pub nand_value : (w n a b : ℕ) → w ≤ 64 → n < 1 → bit_xor (bit_and a b) (2 ^ w - 1) ≡ operation_value nand_card w n a b
nand_value w zero a b high lt =
    sym (term_value-bin Xor (Bin And A B) (Const 18446744073709551615) w a b ∙ (λ i. bit_xor (on_both_value And w a b i) ((term_value-const 18446744073709551615 w a b ∙ low_ones w high) i)))
nand_value w (suc n) a b high lt = absurd (omega arith)

pub nand_has_value : (d : Draft) (inputs : Inputs) (y : Wire) → inputs.a.width ≤ 64
    → ((read : ℕ → ℕ) → SettlesDraft d read → read y.number ≡ bit_xor (bit_and (read inputs.a.number) (read inputs.b.number)) (2 ^ inputs.a.width - 1))
    → HasValue d inputs y nand_card
nand_has_value d inputs y high value read s lt =
    value read s ∙ nand_value inputs.a.width (read inputs.sel.number) (read inputs.a.number) (read inputs.b.number) high lt
