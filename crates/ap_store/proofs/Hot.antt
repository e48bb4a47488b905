-- Lines of which one is as the enable: how they are split by one more bit of the index.
use Rattle.std.proofs.Common.{◌≡◌, ℕ, zero, suc, ◌+◌, ◌-◌, ◌*◌, ◌/◌, ◌%◌, ◌^◌, ◌<◌, ◌≤◌, Bool, true, false, List, [], ◌∷◌, map, refl, sym, ap, ◌∙◌, arith}
use Rattle.std.specs.Prelude.{◌==◌, if◌then◌else◌, bit_and}
use Rattle.std.specs.List.{range_with_len}
use Rattle.std.proofs.Math.Nat.{div-eq_of_lt, pow-suc}
use Rattle.std.proofs.lemmas.Bool.{eqb-true, eqb-false, eq-eqb}
use Rattle.std.proofs.lemmas.Nat.{shr-shr}
use Rattle.ap_store.specs.Writers.{hot, one_hot, split_lines}

-- two tests that mean the same
same_test : (a b c d : ℕ) → (a ≡ b → c ≡ d) → (c ≡ d → a ≡ b) → (a == b) ≡ (c == d)
same_test a b c d f g = go (a == b) (c == d) refl refl
  where
    go : (t u : Bool) → (a == b) ≡ t → (c == d) ≡ u → (a == b) ≡ (c == d)
    go true u p q = p ∙ sym (eq-eqb c d (f (eqb-true a b p)))
    go false false p q = p ∙ sym q
    go false true p q = absurd (eqb-false a b p (g (eqb-true c d q)))

never : (c d : ℕ) → (c ≡ d → ⊥) → (c == d) ≡ false
never c d f = go (c == d) refl
  where
    go : (t : Bool) → (c == d) ≡ t → (c == d) ≡ false
    go true e = absurd (f (eqb-true c d e))
    go false e = e

and_one : (t : Bool) (on : ℕ) → on < 2 → bit_and (if t then on else 0) 1 ≡ (if t then on else 0)
and_one true zero lt = refl
and_one true (suc zero) lt = refl
and_one true (suc (suc n)) lt = absurd (omega arith)
and_one false on lt = refl

and_none : (t : Bool) (on : ℕ) → on < 2 → bit_and (if t then on else 0) 0 ≡ 0
and_none true zero lt = refl
and_none true (suc zero) lt = refl
and_none true (suc (suc n)) lt = absurd (omega arith)
and_none false on lt = refl

-- the line of an even number, and that of the odd one after it
even : (bit on at a : ℕ) → bit < 2 → on < 2 → bit_and (hot on at a) (1 - bit) ≡ hot on (2 * at + bit) (2 * a)
even zero on at a b o = and_one (a == at) on o ∙ ap (λ t. if t then on else 0) (same_test a at (2 * a) (2 * at + 0) (λ e. omega arith) (λ e. omega arith))
even (suc zero) on at a b o = and_none (a == at) on o ∙ ap (λ t. if t then on else 0) (sym (never (2 * a) (2 * at + 1) (λ e. omega arith)))
even (suc (suc n)) on at a b o = absurd (omega arith)

odd : (bit on at a : ℕ) → bit < 2 → on < 2 → bit_and (hot on at a) bit ≡ hot on (2 * at + bit) (2 * a + 1)
odd zero on at a b o = and_none (a == at) on o ∙ ap (λ t. if t then on else 0) (sym (never (2 * a + 1) (2 * at + 0) (λ e. omega arith)))
odd (suc zero) on at a b o = and_one (a == at) on o ∙ ap (λ t. if t then on else 0) (same_test a at (2 * a + 1) (2 * at + 1) (λ e. omega arith) (λ e. omega arith))
odd (suc (suc n)) on at a b o = absurd (omega arith)

split_from : (bit on at a n : ℕ) → bit < 2 → on < 2 → split_lines bit (map (hot on at) (range_with_len a n)) ≡ map (hot on (2 * at + bit)) (range_with_len (2 * a) (2 * n))
split_from bit on at a zero b o = refl
split_from bit on at a (suc n) b o =
    let two : suc (suc (2 * n)) ≡ 2 * suc n = omega arith in
    let next : 2 * (a + 1) ≡ 2 * a + 1 + 1 = omega arith in
    let rest : split_lines bit (map (hot on at) (range_with_len (a + 1) n)) ≡ map (hot on (2 * at + bit)) (range_with_len (2 * a + 1 + 1) (2 * n)) =
    split_from bit on at (a + 1) n b o ∙ ap (λ k. map (hot on (2 * at + bit)) (range_with_len k (2 * n))) next in
    (λ i. even bit on at a b o i ∷ odd bit on at a b o i ∷ rest i) ∙ ap (λ k. map (hot on (2 * at + bit)) (range_with_len (2 * a) k)) two

-- one bit more of the index
pub split_hot : (bit on index at before p s : ℕ) → on < 2 → at < s → at + 1 ≡ p → p ≤ s → bit ≡ index / 2 ^ at % 2 → before ≡ index / 2 ^ p
    → split_lines bit (one_hot on before (2 ^ (s - p))) ≡ one_hot on (index / 2 ^ at) (2 ^ (s - at))
split_hot bit on index at before p s o lt next le is was =
    let low : bit < 2 = omega arith in
    let half : index / 2 ^ at / 2 ≡ index / 2 ^ (at + 1) = shr-shr index at 1 in
    let same : index / 2 ^ (at + 1) ≡ before = ap (λ k. index / 2 ^ k) next ∙ sym was in
    let here : 2 * before + bit ≡ index / 2 ^ at = omega arith in
    let back : suc (s - p) ≡ s - at = omega arith in
    let double : 2 * 2 ^ (s - p) ≡ 2 ^ (s - at) = (let e : 2 * 2 ^ (s - p) ≡ 2 ^ (s - p) * 2 = omega arith in e ∙ sym (pow-suc 2 (s - p)) ∙ ap (λ k. 2 ^ k) back) in
    split_from bit on before 0 (2 ^ (s - p)) low o ∙ (λ i. map (hot on (here i)) (range_with_len 0 (double i)))

-- without a bit there is one line
pub first_hot : (on index s : ℕ) → index < 2 ^ s → on ∷ [] ≡ one_hot on (index / 2 ^ s) (2 ^ (s - s))
first_hot on index s lt =
    let none : 0 ≡ index / 2 ^ s = sym (div-eq_of_lt lt) in
    let zeros : 0 ≡ s - s = omega arith in
    (λ i. one_hot on (none i) (2 ^ zeros i))

-- with all bits there is a line for each index
pub last_hot : (on index p s : ℕ) (lines : List ℕ) → p ≡ 0 → lines ≡ one_hot on (index / 2 ^ p) (2 ^ (s - p)) → lines ≡ one_hot on index (2 ^ s)
last_hot on index p s lines none e =
    let whole : index / 2 ^ 0 ≡ index = omega arith in
    let all : s - 0 ≡ s = omega arith in
    e ∙ ap (λ k. one_hot on (index / 2 ^ k) (2 ^ (s - k))) none ∙ (λ i. one_hot on (whole i) (2 ^ all i))

-- how many lines there are
pub double_count : (p s n : ℕ) → 0 < p → p ≤ s → n ≡ 2 ^ (s - p) → 2 * n ≡ 2 ^ (s - (p - 1))
double_count p s n some le is =
    let back : suc (s - p) ≡ s - (p - 1) = omega arith in
    let e : 2 * n ≡ n * 2 = omega arith in
    e ∙ ap (λ k. k * 2) is ∙ sym (pow-suc 2 (s - p)) ∙ ap (λ k. 2 ^ k) back

pub all_counted : (p s n : ℕ) → p ≡ 0 → n ≡ 2 ^ (s - p) → n ≡ 2 ^ s
all_counted p s n none is = let same : s - p ≡ s = omega arith in is ∙ ap (λ k. 2 ^ k) same
