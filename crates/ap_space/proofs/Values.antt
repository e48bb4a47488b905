-- What lines give fits: the values of operations, and the local that a line assigns.
use Rattle.std.proofs.Common.{ℕ, zero, suc, ◌+◌, ◌-◌, ◌*◌, ◌/◌, ◌%◌, ◌^◌, ◌≤◌, ◌<◌, ◌==◌, Bool, true, false, if◌then◌else◌, nat_lt, ℤ, pos, negsuc, int_lt, Option, Some, None, slice_get, sym, subst, arith, mod-lt, pow_pos, pow_mono}
use Rattle.std.proofs.Math.Nat.{div-le_self, mod-le}
use Rattle.std.proofs.lemmas.Nat.{and_le_l, div_below, mul-lt, or_lt, pow_below, shr_le, xor_lt}
use Rattle.std.specs.Option.{option_map_or}
use Rattle.ap_bits.specs.Cards.{operation_value}
use Rattle.ap_bits.specs.Operations.{binary_value, bits_of, floor_of, high_bits, ones_among, sign_extended, signed, unary_value, zeros_above}
use Rattle.ap_bits.specs.Terms.{level_value, term_value}
use Rattle.ap_bits.specs.declared.card.Card.{Card}
use Rattle.ap_bits.specs.declared.card.OpCard.{OpCard}
use Rattle.ap_bits.specs.declared.term.BinOp.{BinOp}
use Rattle.ap_bits.specs.declared.term.BinOp.TheVariants as two
use Rattle.ap_bits.specs.declared.term.Term.{Term}
use Rattle.ap_bits.specs.declared.term.Term.TheFolds.{fold-roll-Term, ind-Term, map-Term}
use Rattle.ap_bits.specs.declared.term.Term.TheOpen.{Term-F}
use Rattle.ap_bits.specs.declared.term.Term.TheOpen as level
use Rattle.ap_bits.specs.declared.term.Term.TheViews.{roll-Term}
use Rattle.ap_bits.specs.declared.term.UnOp.{UnOp}
use Rattle.ap_bits.specs.declared.term.UnOp.TheVariants as one

below_pow : (w : ℕ) → w < 2 ^ w
below_pow zero = omega arith
below_pow (suc w) = let before = below_pow w in let more = pow_below w (suc w) (omega arith) in omega arith

ones_few : (w a : ℕ) → ones_among w a ≤ w
unfolding ones_among
ones_few zero a = omega arith
ones_few (suc w) a = let rest = ones_few w (a / 2) in let bit = mod-lt a (pow_pos 1) in omega arith

zeros_few : (w a : ℕ) → zeros_above w a ≤ w
unfolding zeros_above
zeros_few zero a = omega arith
zeros_few (suc w) a = by_test (nat_lt a (2 ^ w)) (zeros_few w a)
  where
    by_test : (b : Bool) → zeros_above w a ≤ w → (if b then zeros_above w a + 1 else 0) ≤ suc w
    by_test true h = omega arith
    by_test false h = omega arith

bits_fit : (w : ℕ) (z : ℤ) → bits_of w z < 2 ^ w
bits_fit w (pos n) = mod-lt n (pow_pos w)
bits_fit w (negsuc n) = let some = pow_pos w in omega arith

flag_fits : (w : ℕ) → 1 ≤ w → (b : Bool) → (if b then 1 else 0) < 2 ^ w
flag_fits w low true = let more = pow_below 0 w low in omega arith
flag_fits w low false = pow_pos w

either_fits : (w x y : ℕ) (b : Bool) → x < 2 ^ w → y < 2 ^ w → (if b then x else y) < 2 ^ w
either_fits w x y true p q = p
either_fits w x y false p q = q

unary_fits : (op : UnOp) (w a : ℕ) → a < 2 ^ w → unary_value op w a < 2 ^ w
unary_fits one.Pop w a h = let few = ones_few w a in let more = below_pow w in omega arith
unary_fits one.Clz w a h = let few = zeros_few w a in let more = below_pow w in omega arith
unary_fits one.Pass w a h = h

all_ones : (w : ℕ) → 2 ^ w - 1 < 2 ^ w
all_ones w = let some = pow_pos w in omega arith

binary_fits : (op : BinOp) (w a b : ℕ) → 1 ≤ w → a < 2 ^ w → b < 2 ^ w → binary_value op w a b < 2 ^ w
binary_fits two.Add w a b low p q = mod-lt (a + b) (pow_pos w)
binary_fits two.Sub w a b low p q = mod-lt (a + 2 ^ w - b) (pow_pos w)
binary_fits two.And w a b low p q = let le = and_le_l a b in omega arith
binary_fits two.Or w a b low p q = or_lt w a b p q
binary_fits two.Xor w a b low p q = xor_lt w a b p q
binary_fits two.Eq w a b low p q = flag_fits w low (a == b)
binary_fits two.Ltu w a b low p q = flag_fits w low (nat_lt a b)
binary_fits two.Lts w a b low p q = flag_fits w low (int_lt (signed w a) (signed w b))
binary_fits two.Sll w a b low p q = either_fits w (a * 2 ^ b % 2 ^ w) 0 (nat_lt b w) (mod-lt (a * 2 ^ b) (pow_pos w)) (pow_pos w)
binary_fits two.Srl w a b low p q = either_fits w (a / 2 ^ b) 0 (nat_lt b w) (let le = shr_le a b in omega arith) (pow_pos w)
binary_fits two.Sra w a b low p q =
    either_fits w (bits_of w (floor_of (signed w a) (2 ^ b))) (high_bits w a) (nat_lt b w) (bits_fit w (floor_of (signed w a) (2 ^ b))) (either_fits w 0 (2 ^ w - 1) (nat_lt a (2 ^ (w - 1))) (pow_pos w) (all_ones w))
binary_fits two.Rol w a b low p q = mod-lt (a * 2 ^ (b % w) + a / 2 ^ (w - b % w)) (pow_pos w)
binary_fits two.Mullo w a b low p q = mod-lt (a * b) (pow_pos w)
binary_fits two.Mulhi w a b low p q = div_below (a * b) (2 ^ w) (2 ^ w) (pow_pos w) (mul-lt a b (2 ^ w) (2 ^ w) p q)
binary_fits two.Divu w a b low p q = either_fits w (2 ^ w - 1) (a / b) (b == 0) (all_ones w) (let le = div-le_self a b in omega arith)
binary_fits two.Remu w a b low p q = either_fits w a (a % b) (b == 0) p (let le = mod-le a b in omega arith)

pub extended_fits : (v from to : ℕ) → from ≤ to → v < 2 ^ from → sign_extended v from to < 2 ^ to
extended_fits v from to le h = by_test (nat_lt v (2 ^ (from - 1)))
  where
    more : 2 ^ from ≤ 2 ^ to
    more = pow_mono le

    by_test : (b : Bool) → (if b then v else v + (2 ^ to - 2 ^ from)) < 2 ^ to
    by_test true = let m = more in omega arith
    by_test false = let m = more in omega arith

-- The value of a term.

module _ (w a b : ℕ) (low : 1 ≤ w) (p : a < 2 ^ w) (q : b < 2 ^ w) where
  abbrev Fits : Term → Type 0
  Fits t = term_value t w a b < 2 ^ w

  -- a level fits where its parts do
  level_fits : (y : Term-F ((t : Term) × Fits t)) → Fits (roll-Term (map-Term ((t : Term) × Fits t) Term (λ e. e.0) y))
  unfolding term_value
  level_fits level.A = subst (λ v. v < 2 ^ w) (sym (fold-roll-Term ℕ (level_value w a b) level.A)) p
  level_fits level.B = subst (λ v. v < 2 ^ w) (sym (fold-roll-Term ℕ (level_value w a b) level.B)) q
  level_fits (level.Const c) = subst (λ v. v < 2 ^ w) (sym (fold-roll-Term ℕ (level_value w a b) (level.Const c))) (mod-lt c (pow_pos w))
  level_fits (level.Un op e) = subst (λ v. v < 2 ^ w) (sym (fold-roll-Term ℕ (level_value w a b) (level.Un op e.0))) (unary_fits op w (term_value e.0 w a b) e.1)
  level_fits (level.Bin op e f) = subst (λ v. v < 2 ^ w) (sym (fold-roll-Term ℕ (level_value w a b) (level.Bin op e.0 f.0))) (binary_fits op w (term_value e.0 w a b) (term_value f.0 w a b) low e.1 f.1)

  term_fits : (t : Term) → Fits t
  term_fits t = ind-Term Fits (λ x y is. subst (λ z. Fits (roll-Term z)) is (level_fits y)) t

pub operation_fits : (card : Card) (w op a b : ℕ) → 1 ≤ w → a < 2 ^ w → b < 2 ^ w → operation_value card w op a b < 2 ^ w
operation_fits card w op a b low p q = by_op (slice_get card.ops op)
  where
    by_op : (o : Option OpCard) → option_map_or (λ (o : OpCard). term_value o.term w a b) o 0 < 2 ^ w
    by_op None = pow_pos w
    by_op (Some o) = term_fits w a b low p q o.term
