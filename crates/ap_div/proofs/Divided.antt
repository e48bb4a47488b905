-- The method of the divider reaches quotient and remainder: after n steps the high number is the rest of the highest n bits of the
-- dividend, and below what is left of the dividend stands their quotient.
use Rattle.std.proofs.Common.{◌≡◌, ℕ, suc, zero, ◌+◌, ◌-◌, ◌*◌, ◌/◌, ◌%◌, ◌^◌, ◌<◌, ◌≤◌, ⊎_elim, refl, sym, ap, subst, ◌∙◌, arith}
use Rattle.std.specs.Prelude.{◌==◌, if◌then◌else◌, false}
use Rattle.std.proofs.Math.Nat.{pow-suc, mod-one, div-one}
use Rattle.std.proofs.lemmas.Nat.{pow_pos, pow-add, mod-pow-add, shr-shr, shr_le, div-mul-add, mod-mul-add, mul-add-lt, mod_below}
use Rattle.std.proofs.lemmas.Bool.{cases_lt, lt-ltb, le-ltb, ne_eqb}
use Rattle.ap_bits.proofs.TermValues.{term_values}
use Rattle.ap_unit.specs.Methods.{State, after_steps, Reaches}
use Rattle.ap_bits.specs.Cards.{operation_value}
use Rattle.ap_bits.specs.KindCards.{div_card}
use Rattle.ap_div.specs.Quotients.{divide, longer_rest, quotient_step}

-- the state after n of w steps
record IsPartly (w a b n : ℕ) (state : State) : Type 0 where
  quotient : ℕ
  small : quotient < 2 ^ n
  whole : a / 2 ^ (w - n) ≡ quotient * b + state.high
  rest : 0 < b → state.high < b
  by_zero : b ≡ 0 → quotient + 1 ≡ 2 ^ n
  low : state.low ≡ a % 2 ^ (w - n) * 2 ^ n + quotient

-- a bit of the dividend goes from the low number to the rest: the numbers of a step
record IsMoved (w a b n u : ℕ) (state : State) (q : ℕ) : Type 0 where
  longer : longer_rest w state ≡ state.high * 2 + a / 2 ^ u % 2
  kept : state.low % 2 ^ (w - 1) ≡ a % 2 ^ u * 2 ^ n + q
  dividend : a / 2 ^ u ≡ q * 2 * b + longer_rest w state
  low : (bit : ℕ) → state.low % 2 ^ (w - 1) * 2 + bit ≡ a % 2 ^ u * 2 ^ suc n + (q * 2 + bit)

-- the low number in three parts
three_parts : (b M T U q : ℕ) → (b * U + M) * T + q ≡ b * (T * U) + (M * T + q)
three_parts b M T U q = omega arith

moved : (w a b n u : ℕ) (state : State) → w ≡ suc (n + u) → (p : IsPartly w a b n state) → IsMoved w a b n u state p.quotient
moved w a b n u state wide p =
    let left : w - n ≡ suc u = omega arith in
    let top : w - 1 ≡ n + u = omega arith in
    let next : 1 + u ≡ suc u = omega arith in
    let after : u + 1 ≡ suc u = omega arith in
    let modulo : a % 2 ^ (w - n) ≡ a / 2 ^ u % 2 * 2 ^ u + a % 2 ^ u = ap (λ k. a % 2 ^ k) (left ∙ sym next) ∙ mod-pow-add a 1 u in
    let power : 2 ^ (w - 1) ≡ 2 ^ n * 2 ^ u = ap (λ k. 2 ^ k) top ∙ pow-add 2 n u in
    let parts : state.low ≡ a / 2 ^ u % 2 * 2 ^ (w - 1) + (a % 2 ^ u * 2 ^ n + p.quotient) =
    p.low ∙ ap (λ k. k * 2 ^ n + p.quotient) modulo ∙ three_parts (a / 2 ^ u % 2) (a % 2 ^ u) (2 ^ n) (2 ^ u) p.quotient ∙ ap (λ k. a / 2 ^ u % 2 * k + (a % 2 ^ u * 2 ^ n + p.quotient)) (sym power) in
    let below : a % 2 ^ u * 2 ^ n + p.quotient < 2 ^ (w - 1) =
    subst (λ k. a % 2 ^ u * 2 ^ n + p.quotient < k) (sym power) (mul-add-lt (a % 2 ^ u) (2 ^ n) p.quotient (2 ^ u) (mod_below a (2 ^ u) (pow_pos u)) p.small) in
    let high : state.low / 2 ^ (w - 1) ≡ a / 2 ^ u % 2 = ap (λ k. k / 2 ^ (w - 1)) parts ∙ div-mul-add (a / 2 ^ u % 2) (2 ^ (w - 1)) (a % 2 ^ u * 2 ^ n + p.quotient) below in
    let kept : state.low % 2 ^ (w - 1) ≡ a % 2 ^ u * 2 ^ n + p.quotient = ap (λ k. k % 2 ^ (w - 1)) parts ∙ mod-mul-add (a / 2 ^ u % 2) (2 ^ (w - 1)) (a % 2 ^ u * 2 ^ n + p.quotient) below in
    let longer : longer_rest w state ≡ state.high * 2 + a / 2 ^ u % 2 = ap (λ k. state.high * 2 + k) high in
    let half : a / 2 ^ u / 2 ≡ p.quotient * b + state.high = shr-shr a u 1 ∙ ap (λ k. a / 2 ^ k) (after ∙ sym left) ∙ p.whole in
    let double : a / 2 ^ u ≡ (p.quotient * b + state.high) * 2 + a / 2 ^ u % 2 = let split : a / 2 ^ u ≡ a / 2 ^ u / 2 * 2 + a / 2 ^ u % 2 = omega arith in split ∙ ap (λ k. k * 2 + a / 2 ^ u % 2) half in
    record {
      longer = longer;
      kept = kept;
      dividend = double ∙ regroup p.quotient b state.high (a / 2 ^ u % 2) ∙ ap (λ k. p.quotient * 2 * b + k) (sym longer);
      low = λ new. ap (λ k. k * 2 + new) kept ∙ spread (a % 2 ^ u) (2 ^ n) p.quotient new ∙ ap (λ k. a % 2 ^ u * k + (p.quotient * 2 + new)) (sym (pow-suc 2 n));
    }
  where
    regroup : (q b h t : ℕ) → (q * b + h) * 2 + t ≡ q * 2 * b + (h * 2 + t)
    regroup q b h t = omega arith

    spread : (M T q t : ℕ) → (M * T + q) * 2 + t ≡ M * (T * 2) + (q * 2 + t)
    spread M T q t = omega arith

step_once : (w a b n u : ℕ) (state : State) → w ≡ suc (n + u) → a < 2 ^ w → b < 2 ^ w → IsPartly w a b n state → IsPartly w a b (suc n) (quotient_step w b state)
step_once w a b n u state wide sa sb p =
    ⊎_elim
    (λ (less : longer_rest w state < b).
    subst (IsPartly w a b (suc n)) (sym (ap (λ t. if t then not_taken else taken) (lt-ltb (longer_rest w state) b less))) (record {
      quotient = p.quotient * 2;
      small = subst (λ k. p.quotient * 2 < k) (sym (pow-suc 2 n)) (let lt = p.small in omega arith);
      whole = ap (λ k. a / 2 ^ k) later ∙ m.dividend;
      rest = λ some. less;
      by_zero = λ none. absurd (omega arith);
      low =
          let none : state.low % 2 ^ (w - 1) * 2 ≡ state.low % 2 ^ (w - 1) * 2 + 0 = omega arith in
          let whole : p.quotient * 2 + 0 ≡ p.quotient * 2 = omega arith in
          none ∙ m.low 0 ∙ (λ i. a % 2 ^ sym later i * 2 ^ suc n + whole i);
    }))
    (λ (fits : b ≤ longer_rest w state).
    let small : longer_rest w state - b < 2 ^ w = room fits in
    let alone : (longer_rest w state - b) % 2 ^ w ≡ longer_rest w state - b =
    let e : longer_rest w state - b ≡ 0 * 2 ^ w + (longer_rest w state - b) = omega arith in ap (λ k. k % 2 ^ w) e ∙ mod-mul-add 0 (2 ^ w) (longer_rest w state - b) small in
    subst (IsPartly w a b (suc n)) (sym (ap (λ t. if t then not_taken else taken) (le-ltb (longer_rest w state) b fits))) (record {
      quotient = p.quotient * 2 + 1;
      small = subst (λ k. p.quotient * 2 + 1 < k) (sym (pow-suc 2 n)) (let lt = p.small in omega arith);
      whole =
          let apart : p.quotient * 2 * b + longer_rest w state ≡ (p.quotient * 2 + 1) * b + (longer_rest w state - b) =
          (let e : longer_rest w state ≡ b + (longer_rest w state - b) = omega arith in ap (λ k. p.quotient * 2 * b + k) e ∙ one_more p.quotient b (longer_rest w state - b)) in
          ap (λ k. a / 2 ^ k) later ∙ m.dividend ∙ apart ∙ ap (λ k. (p.quotient * 2 + 1) * b + k) (sym alone);
      rest = λ some. subst (λ k. k < b) (sym alone) (let lt = p.rest some in let bit : a / 2 ^ u % 2 < 2 = omega arith in let is = m.longer in omega arith);
      by_zero = λ none. let all = p.by_zero none in let e : p.quotient * 2 + 1 + 1 ≡ 2 ^ n * 2 = omega arith in e ∙ sym (pow-suc 2 n);
      low = m.low 1 ∙ ap (λ k. a % 2 ^ k * 2 ^ suc n + (p.quotient * 2 + 1)) (sym later);
    }))
    (cases_lt (longer_rest w state) b)
  where
    m : IsMoved w a b n u state p.quotient
    m = moved w a b n u state wide p

    later : w - suc n ≡ u
    later = omega arith

    taken : State
    taken = record { high = (longer_rest w state - b) % 2 ^ w; low = state.low % 2 ^ (w - 1) * 2 + 1 }

    not_taken : State
    not_taken = record { high = longer_rest w state; low = state.low % 2 ^ (w - 1) * 2 }

    one_more : (q b r : ℕ) → q * 2 * b + (b + r) ≡ (q * 2 + 1) * b + r
    one_more q b r = omega arith

    room : b ≤ longer_rest w state → longer_rest w state - b < 2 ^ w
    room fits =
        let front : a / 2 ^ u ≤ a = shr_le a u in
        let whole = m.dividend in
        let longer : longer_rest w state ≤ a / 2 ^ u = omega arith in
        omega arith

partly : (w a b n : ℕ) → a < 2 ^ w → b < 2 ^ w → n ≤ w → IsPartly w a b n (after_steps (divide w) a b n)
partly w a b zero sa sb h =
    let none : w - 0 ≡ w = omega arith in
    let nothing : a / 2 ^ w ≡ 0 = let e : a ≡ 0 * 2 ^ w + a = omega arith in ap (λ k. k / 2 ^ w) e ∙ div-mul-add 0 (2 ^ w) a sa in
    let all : a % 2 ^ w ≡ a = let e : a ≡ 0 * 2 ^ w + a = omega arith in ap (λ k. k % 2 ^ w) e ∙ mod-mul-add 0 (2 ^ w) a sa in
    record {
      quotient = 0;
      small = omega arith;
      whole = ap (λ k. a / 2 ^ k) none ∙ nothing ∙ omega arith;
      rest = λ some. some;
      by_zero = λ e. refl;
      low = let e : a ≡ a * 1 + 0 = omega arith in e ∙ (λ i. sym all i * 1 + 0) ∙ ap (λ k. a % 2 ^ k * 1 + 0) (sym none);
    }
partly w a b (suc n) sa sb h =
    let wide : w ≡ suc (n + (w - suc n)) = omega arith in
    step_once w a b n (w - suc n) (after_steps (divide w) a b n) wide sa sb (partly w a b n sa sb (omega arith))

-- after all steps the low number is the quotient, and the high one the remainder
record IsWhole (w a b : ℕ) (state : State) : Type 0 where
  whole : a ≡ state.low * b + state.high
  rest : 0 < b → state.high < b
  by_zero : b ≡ 0 → state.low + 1 ≡ 2 ^ w

whole : (w a b : ℕ) → a < 2 ^ w → b < 2 ^ w → IsWhole w a b (after_steps (divide w) a b w)
whole w a b sa sb =
    let all = partly w a b w sa sb (omega arith) in
    let state : State = after_steps (divide w) a b w in
    let none : w - w ≡ 0 = omega arith in
    let left : a / 2 ^ (w - w) ≡ a = ap (λ k. a / 2 ^ k) none ∙ div-one a in
    let out : a % 2 ^ (w - w) ≡ 0 = ap (λ k. a % 2 ^ k) none ∙ mod-one a in
    let low : state.low ≡ all.quotient = all.low ∙ ap (λ k. k * 2 ^ w + all.quotient) out ∙ omega arith in
    record {
      whole = sym left ∙ all.whole ∙ ap (λ k. k * b + state.high) (sym low);
      rest = all.rest;
      by_zero = λ e. ap (λ k. k + 1) low ∙ all.by_zero e;
    }

quotient_is : (w a b : ℕ) (state : State) → IsWhole w a b state → state.low ≡ (if b == 0 then 2 ^ w - 1 else a / b)
quotient_is w a zero state s = let all = s.by_zero refl in omega arith
quotient_is w a (suc b) state s =
    let other : (suc b == 0) ≡ false = ne_eqb (suc b) 0 (λ (e : suc b ≡ 0). omega arith) in
    let less : state.high < suc b = s.rest (omega arith) in
    let value : a / suc b ≡ state.low = ap (λ k. k / suc b) s.whole ∙ div-mul-add state.low (suc b) state.high less in
    rw other (sym value)

remainder_is : (w a b : ℕ) (state : State) → IsWhole w a b state → state.high ≡ (if b == 0 then a else a % b)
remainder_is w a zero state s = let all = s.whole in omega arith
remainder_is w a (suc b) state s =
    let other : (suc b == 0) ≡ false = ne_eqb (suc b) 0 (λ (e : suc b ≡ 0). omega arith) in
    let less : state.high < suc b = s.rest (omega arith) in
    let value : a % suc b ≡ state.high = ap (λ k. k % suc b) s.whole ∙ mod-mul-add state.low (suc b) state.high less in
    rw other (sym value)

quotient_value : (w a b : ℕ) → (if b == 0 then 2 ^ w - 1 else a / b) ≡ operation_value div_card w 0 a b
quotient_value w a b = sym (simp term_values)

remainder_value : (w a b : ℕ) → (if b == 0 then a else a % b) ≡ operation_value div_card w 1 a b
remainder_value w a b = sym (simp term_values)

pub divided : (w : ℕ) → Reaches (divide w) div_card w
divided w zero a b lt sa sb = quotient_is w a b (after_steps (divide w) a b w) (whole w a b sa sb) ∙ quotient_value w a b
divided w (suc zero) a b lt sa sb = remainder_is w a b (after_steps (divide w) a b w) (whole w a b sa sb) ∙ remainder_value w a b
divided w (suc (suc op)) a b lt sa sb = absurd (omega arith)

pub quotient_called : (w op a b v : ℕ) → op ≡ 0 → v ≡ (if b == 0 then 2 ^ w - 1 else a / b) → v ≡ operation_value div_card w op a b
quotient_called w op a b v first is = is ∙ quotient_value w a b ∙ ap (λ n. operation_value div_card w n a b) (sym first)

pub remainder_called : (w op a b v : ℕ) → (op ≡ 0 → ⊥) → op < 2 → v ≡ (if b == 0 then a else a % b) → v ≡ operation_value div_card w op a b
remainder_called w op a b v other lt is =
    let second : 1 ≡ op = omega arith in
    is ∙ remainder_value w a b ∙ ap (λ n. operation_value div_card w n a b) second
