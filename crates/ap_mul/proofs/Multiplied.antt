-- The method of the multiplier reaches the product: after n steps the high number and what went out below it are the first factor
-- times the lowest n bits of the second one.
use Rattle.std.proofs.Common.{◌≡◌, ℕ, suc, zero, ◌+◌, ◌-◌, ◌*◌, ◌/◌, ◌%◌, ◌^◌, ◌<◌, ◌≤◌, ⊎_elim, sym, ap, subst, ◌∙◌, arith}
use Rattle.std.proofs.Math.Nat.{pow-suc, mod-one, div-one, mod-eq_of_lt}
use Rattle.std.proofs.lemmas.Nat.{pow-add, mod-pow-add, shr-shr, shr_high, mod_low}
use Rattle.ap_bits.proofs.TermValues.{term_values}
use Rattle.ap_unit.specs.Methods.{State, Method, after_steps, shown_of, Reaches}
use Rattle.ap_bits.specs.Cards.{operation_value}
use Rattle.ap_unit.proofs.TopBits.{bit_cases}
use Rattle.ap_bits.specs.KindCards.{mul_card}
use Rattle.ap_mul.specs.Products.{multiply, product_step}

-- the state after n of w steps
record IsPartly (w a b n : ℕ) (state : State) : Type 0 where
  rest : ℕ
  small : rest < 2 ^ n
  product : state.high * 2 ^ n + rest ≡ a * (b % 2 ^ n)
  low : state.low ≡ rest * 2 ^ (w - n) + b / 2 ^ n

-- what went out below stays small
rest_small : (T E R : ℕ) → E < 2 → R < T → E * T + R < T * 2
rest_small T E R bit small = ⊎_elim (λ e. subst (λ n. n * T + R < T * 2) (sym e) (omega arith)) (λ e. subst (λ n. n * T + R < T * 2) (sym e) (omega arith)) (bit_cases E bit)

-- one more bit of the second factor
product_more : (T H R a p q S : ℕ) → S ≡ H + q % 2 * a → H * T + R ≡ a * p → S / 2 * (T * 2) + (S % 2 * T + R) ≡ a * (q % 2 * T + p)
product_more T H R a p q S is before =
    let halves : S / 2 * 2 + S % 2 ≡ S = omega arith in
    let left : S / 2 * (T * 2) + (S % 2 * T + R) ≡ (S / 2 * 2 + S % 2) * T + R = omega arith in
    let whole : (S / 2 * 2 + S % 2) * T + R ≡ (H + q % 2 * a) * T + R = ap (λ n. n * T + R) (halves ∙ is) in
    let apart : (H + q % 2 * a) * T + R ≡ (H * T + R) + q % 2 * a * T = omega arith in
    let right : a * p + q % 2 * a * T ≡ a * (q % 2 * T + p) = omega arith in
    left ∙ whole ∙ apart ∙ ap (λ n. n + q % 2 * a * T) before ∙ right

-- the low number is what went out, above what is left of the second factor
low_more : (T U E R L q : ℕ) → L ≡ R * (U * 2) + q → E * (T * U) + L / 2 ≡ (E * T + R) * U + q / 2
low_more T U E R L q is =
    let twice : L ≡ 2 * (R * U) + q = is ∙ omega arith in
    let half : L / 2 ≡ R * U + q / 2 = omega arith in
    ap (λ n. E * (T * U) + n) half ∙ omega arith

low_bit : (U R L q : ℕ) → L ≡ R * (U * 2) + q → L % 2 ≡ q % 2
low_bit U R L q is =
    let twice : L ≡ 2 * (R * U) + q = is ∙ omega arith in
    omega arith

step_once : (w a b n u : ℕ) (state : State) → w ≡ suc (n + u) → IsPartly w a b n state → IsPartly w a b (suc n) (product_step w a state)
step_once w a b n u state wide partly =
    let left : w - n ≡ suc u = omega arith in
    let later : w - suc n ≡ u = omega arith in
    let top : w - 1 ≡ n + u = omega arith in
    let low : state.low ≡ partly.rest * (2 ^ u * 2) + b / 2 ^ n = partly.low ∙ ap (λ k. partly.rest * 2 ^ k + b / 2 ^ n) left ∙ ap (λ k. partly.rest * k + b / 2 ^ n) (pow-suc 2 u) in
    let bit : state.low % 2 ≡ b / 2 ^ n % 2 = low_bit (2 ^ u) partly.rest state.low (b / 2 ^ n) low in
    let sum : state.high + state.low % 2 * a ≡ state.high + b / 2 ^ n % 2 * a = ap (λ k. state.high + k * a) bit in
    let odd : (state.high + state.low % 2 * a) % 2 < 2 = omega arith in
    let next : 1 + n ≡ suc n = omega arith in
    let more : b % 2 ^ suc n ≡ b / 2 ^ n % 2 * 2 ^ n + b % 2 ^ n = ap (λ k. b % 2 ^ k) (sym next) ∙ mod-pow-add b 1 n in
    let after : n + 1 ≡ suc n = omega arith in
    let less : b / 2 ^ n / 2 ≡ b / 2 ^ suc n = shr-shr b n 1 ∙ ap (λ k. b / 2 ^ k) after in
    record {
      rest = (state.high + state.low % 2 * a) % 2 * 2 ^ n + partly.rest;
      small = subst (λ k. (state.high + state.low % 2 * a) % 2 * 2 ^ n + partly.rest < k) (sym (pow-suc 2 n)) (rest_small (2 ^ n) ((state.high + state.low % 2 * a) % 2) partly.rest odd partly.small);
      product =
          ap (λ k. (state.high + state.low % 2 * a) / 2 * k + ((state.high + state.low % 2 * a) % 2 * 2 ^ n + partly.rest)) (pow-suc 2 n)
          ∙ product_more (2 ^ n) state.high partly.rest a (b % 2 ^ n) (b / 2 ^ n) (state.high + state.low % 2 * a) sum partly.product ∙ ap (λ k. a * k) (sym more);
      low =
          ap (λ k. (state.high + state.low % 2 * a) % 2 * k + state.low / 2) (ap (λ k. 2 ^ k) top ∙ pow-add 2 n u)
          ∙ low_more (2 ^ n) (2 ^ u) ((state.high + state.low % 2 * a) % 2) partly.rest state.low (b / 2 ^ n) low
          ∙ (λ i. ((state.high + state.low % 2 * a) % 2 * 2 ^ n + partly.rest) * 2 ^ sym later i + less i);
    }

partly : (w a b n : ℕ) → n ≤ w → IsPartly w a b n (after_steps (multiply w) a b n)
partly w a b zero h = record {
  rest = 0;
  small = omega arith;
  product = let none : b % 2 ^ 0 ≡ 0 = mod-one b in let e : a * 0 ≡ 0 = omega arith in sym (ap (λ k. a * k) none ∙ e);
  low = let whole : b / 2 ^ 0 ≡ b = div-one b in let e : 0 * 2 ^ (w - 0) + b ≡ b = omega arith in sym (ap (λ k. 0 * 2 ^ (w - 0) + k) whole ∙ e);
}
partly w a b (suc n) h =
    let wide : w ≡ suc (n + (w - suc n)) = omega arith in
    step_once w a b n (w - suc n) (after_steps (multiply w) a b n) wide (partly w a b n (omega arith))

-- after all steps the two numbers are the halves of the product
halves : (w a b : ℕ) → b < 2 ^ w → ((after_steps (multiply w) a b w).high ≡ a * b / 2 ^ w) × ((after_steps (multiply w) a b w).low ≡ a * b % 2 ^ w)
halves w a b small =
    let all = partly w a b w (omega arith) in
    let state : State = after_steps (multiply w) a b w in
    let product : state.high * 2 ^ w + all.rest ≡ a * b = all.product ∙ ap (λ k. a * k) (mod-eq_of_lt small) in
    let none : w - w ≡ 0 = omega arith in
    let nothing : b / 2 ^ w ≡ 0 = let e : b ≡ 0 * 2 ^ w + b = omega arith in ap (λ k. k / 2 ^ w) e ∙ shr_high 0 w b small in
    let low : state.low ≡ all.rest = all.low ∙ (λ i. all.rest * 2 ^ none i + nothing i) ∙ omega arith in (
      sym (ap (λ k. k / 2 ^ w) (sym product) ∙ shr_high state.high w all.rest all.small),
      low ∙ sym (ap (λ k. k % 2 ^ w) (sym product) ∙ mod_low state.high w all.rest all.small),
    )

low_value : (w a b : ℕ) → a * b % 2 ^ w ≡ operation_value mul_card w 0 a b
low_value w a b = sym (simp term_values)

high_value : (w a b : ℕ) → a * b / 2 ^ w ≡ operation_value mul_card w 1 a b
high_value w a b = sym (simp term_values)

pub multiplied : (w : ℕ) → Reaches (multiply w) mul_card w
multiplied w zero a b lt sa sb = (halves w a b sb).1 ∙ low_value w a b
multiplied w (suc zero) a b lt sa sb = (halves w a b sb).0 ∙ high_value w a b
multiplied w (suc (suc op)) a b lt sa sb = absurd (omega arith)

pub low_called : (w op a b v : ℕ) → op ≡ 0 → v ≡ a * b % 2 ^ w → v ≡ operation_value mul_card w op a b
low_called w op a b v first is = is ∙ low_value w a b ∙ ap (λ n. operation_value mul_card w n a b) (sym first)

pub high_called : (w op a b v : ℕ) → (op ≡ 0 → ⊥) → op < 2 → v ≡ a * b / 2 ^ w → v ≡ operation_value mul_card w op a b
high_called w op a b v other lt is =
    let second : 1 ≡ op = omega arith in
    is ∙ high_value w a b ∙ ap (λ n. operation_value mul_card w n a b) second
