-- The values that the kinds' circuits have, as those of their cards' operations.
use Rattle.std.proofs.Common.{◌≡◌, ℕ, zero, suc, ◌^◌, ◌<◌, ◌≤◌, true, List, [], ◌∷◌, refl, sym, ap, subst, ◌∙◌, arith, inl, inr}
use Rattle.std.specs.Prelude.{◌==◌, slice_get, Some, IsTrue, nat_le}
use Rattle.std.specs.List.{AllByRecursion as Each, list_any}
use Rattle.std.proofs.Math.Nat.{mod-eq_of_lt}
use Rattle.std.proofs.lemmas.Bool.{eqb-true, leb-true, or_cases, and_parts}
use lib.Count.{count_trailing_zeros}
use Rattle.ap_bits.specs.declared.term.BinOp.{BinOp}
use Rattle.ap_bits.specs.declared.term.BinOp.TheVariants.{Sll, Srl, Sra, Rol, Add}
use Rattle.ap_bits.specs.declared.term.UnOp.{UnOp}
use Rattle.ap_bits.specs.declared.term.UnOp.TheVariants.{Pop, Clz}
use Rattle.ap_bits.specs.declared.term.Term.{Un, Bin, A, B, Const}
use Rattle.ap_bits.specs.declared.card.Widths.TheVariants.{Any, PowersOfTwo}
use Rattle.ap_bits.specs.Cards.{allows, operation_value}
use Rattle.ap_bits.specs.Operations.{unary_value, binary_value}
use Rattle.ap_bits.specs.Terms.{term_value}
use Rattle.ap_bits.proofs.TermValues.{term_value-first, term_value-second, term_value-const, term_value-un, term_value-bin}
use Rattle.ap_net.specs.declared.cell.Wire.{Wire}
use Rattle.ap_net.specs.Draft.{Draft, SettlesDraft}
use Rattle.ap_unit.specs.declared.pieces.Inputs.{Inputs}
use Rattle.ap_unit.specs.Pieces.{HasValue}
use Rattle.ap_bits.specs.KindCards.{shift_card, count_card, avg_card}
use Rattle.ap_comb.specs.Shifts.{shift_ops}
use Rattle.ap_comb.specs.Counts.{count_ops}
use Rattle.ap_comb.proofs.BitCounts.{count_below}

-- the widths
pub any_width : (w : ℕ) → IsTrue (allows Any w) → (1 ≤ w) × (w ≤ 64)
any_width w h =
    let parts = and_parts (nat_le 1 w) (nat_le w 64) h in
    (leb-true 1 w parts.0, leb-true w 64 parts.1)

by_each : (w : ℕ) (P : ℕ → Type 0) (powers : List ℕ) → Each P powers → list_any (λ power. w == power) powers ≡ true → P w
by_each w P [] each h = cc
by_each w P (power ∷ powers) each h =
    elim (or_cases (w == power) (list_any (λ power. w == power) powers) h) [
      | inl here ↦ subst P (sym (eqb-true w power here)) each.0
      | inr later ↦ by_each w P powers each.1 later
    ]

pub power_width : (w : ℕ) → IsTrue (allows PowersOfTwo w) → w ≡ 2 ^ count_trailing_zeros 32 w
unfolding count_trailing_zeros
power_width w h = by_each w (λ n. n ≡ 2 ^ count_trailing_zeros 32 n) (1 ∷ 2 ∷ 4 ∷ 8 ∷ 16 ∷ 32 ∷ 64 ∷ []) (refl, (refl, (refl, (refl, (refl, (refl, (refl, tt))))))) h

-- the values of terms with one operation
pub on_both_value : (op : BinOp) (w a b : ℕ) → term_value (Bin op A B) w a b ≡ binary_value op w a b
on_both_value op w a b = term_value-bin op A B w a b ∙ (λ i. binary_value op w (term_value-first w a b i) (term_value-second w a b i))

on_first_value : (op : UnOp) (w a b : ℕ) → term_value (Un op A) w a b ≡ unary_value op w a
on_first_value op w a b = term_value-un op A w a b ∙ ap (unary_value op w) (term_value-first w a b)

-- the operation of a number has the card's value
pub shift_value : (w n a b : ℕ) (op : BinOp) → slice_get shift_ops n ≡ Some op → binary_value op w a b ≡ operation_value shift_card w n a b
shift_value w zero a b op at = let same : Sll ≡ op = cc in subst (λ o. binary_value o w a b ≡ term_value (Bin Sll A B) w a b) same (sym (on_both_value Sll w a b))
shift_value w (suc zero) a b op at = let same : Srl ≡ op = cc in subst (λ o. binary_value o w a b ≡ term_value (Bin Srl A B) w a b) same (sym (on_both_value Srl w a b))
shift_value w (suc (suc zero)) a b op at = let same : Sra ≡ op = cc in subst (λ o. binary_value o w a b ≡ term_value (Bin Sra A B) w a b) same (sym (on_both_value Sra w a b))
shift_value w (suc (suc (suc zero))) a b op at = let same : Rol ≡ op = cc in subst (λ o. binary_value o w a b ≡ term_value (Bin Rol A B) w a b) same (sym (on_both_value Rol w a b))
shift_value w (suc (suc (suc (suc n)))) a b op at = cc

pub count_value : (w n a b : ℕ) (op : UnOp) → slice_get count_ops n ≡ Some op → unary_value op w a ≡ operation_value count_card w n a b
count_value w zero a b op at = let same : Pop ≡ op = cc in subst (λ o. unary_value o w a ≡ term_value (Un Pop A) w a b) same (sym (on_first_value Pop w a b))
count_value w (suc zero) a b op at = let same : Clz ≡ op = cc in subst (λ o. unary_value o w a ≡ term_value (Un Clz A) w a b) same (sym (on_first_value Clz w a b))
count_value w (suc (suc n)) a b op at = cc

pub avg_value : (w n a b : ℕ) → 1 ≤ w → n < 1 → binary_value Srl w (binary_value Add w a b) 1 ≡ operation_value avg_card w n a b
avg_value w zero a b some lt =
    let one : 1 < 2 ^ w = omega (arith, count_below w) in
    sym (term_value-bin Srl (Bin Add A B) (Const 1) w a b ∙ (λ i. binary_value Srl w (on_both_value Add w a b i) ((term_value-const 1 w a b ∙ mod-eq_of_lt one) i)))
avg_value w (suc n) a b some lt = absurd (omega arith)

shift_operation : (n : ℕ) → n < 4 → (op : BinOp) × (slice_get shift_ops n ≡ Some op)
shift_operation zero h = (Sll, refl)
shift_operation (suc zero) h = (Srl, refl)
shift_operation (suc (suc zero)) h = (Sra, refl)
shift_operation (suc (suc (suc zero))) h = (Rol, refl)
shift_operation (suc (suc (suc (suc n)))) h = absurd (omega arith)

count_operation : (n : ℕ) → n < 2 → (op : UnOp) × (slice_get count_ops n ≡ Some op)
count_operation zero h = (Pop, refl)
count_operation (suc zero) h = (Clz, refl)
count_operation (suc (suc n)) h = absurd (omega arith)

pub shift_has_value : (d : Draft) (inputs : Inputs) (y : Wire)
    → ((read : ℕ → ℕ) → SettlesDraft d read → (op : BinOp) → slice_get shift_ops (read inputs.sel.number) ≡ Some op → read y.number ≡ binary_value op inputs.a.width (read inputs.a.number) (read inputs.b.number))
    → HasValue d inputs y shift_card
shift_has_value d inputs y value read s lt =
    let op = shift_operation (read inputs.sel.number) lt in
    value read s op.0 op.1 ∙ shift_value inputs.a.width (read inputs.sel.number) (read inputs.a.number) (read inputs.b.number) op.0 op.1

pub count_has_value : (d : Draft) (inputs : Inputs) (y : Wire)
    → ((read : ℕ → ℕ) → SettlesDraft d read → (op : UnOp) → slice_get count_ops (read inputs.sel.number) ≡ Some op → read y.number ≡ unary_value op inputs.a.width (read inputs.a.number))
    → HasValue d inputs y count_card
count_has_value d inputs y value read s lt =
    let op = count_operation (read inputs.sel.number) lt in
    value read s op.0 op.1 ∙ count_value inputs.a.width (read inputs.sel.number) (read inputs.a.number) (read inputs.b.number) op.0 op.1

pub avg_has_value : (d : Draft) (inputs : Inputs) (y : Wire) → 1 ≤ inputs.a.width
    → ((read : ℕ → ℕ) → SettlesDraft d read → read y.number ≡ binary_value Srl inputs.a.width (binary_value Add inputs.a.width (read inputs.a.number) (read inputs.b.number)) 1)
    → HasValue d inputs y avg_card
avg_has_value d inputs y some value read s lt =
    value read s ∙ avg_value inputs.a.width (read inputs.sel.number) (read inputs.a.number) (read inputs.b.number) some lt
