-- The highest bit of a number, and what a number has above a power of two, by its order: for circuits that look at highest bits.
use Rattle.std.proofs.Common.{◌≡◌, ℕ, suc, zero, ◌+◌, ◌-◌, ◌*◌, ◌/◌, ◌%◌, ◌<◌, ◌≤◌, ⊎_elim, inl, inr, refl, ap, ◌∙◌, arith}
use Rattle.std.specs.Prelude.{◌⊎◌}
use Rattle.std.proofs.lemmas.Nat.{div-mul-add, mod-mul-add}
use Rattle.std.proofs.lemmas.Bool.{cases_lt}

-- a bit is 0 or 1
pub bit_cases : (n : ℕ) → n < 2 → (n ≡ 0) ⊎ (n ≡ 1)
bit_cases zero h = inl refl
bit_cases (suc zero) h = inr refl
bit_cases (suc (suc n)) h = absurd (omega arith)

-- what a number below twice T has below T, and above it
pub split : (T t : ℕ) → t < 2 * T → ((t < T) × (t % T ≡ t) × (t / T ≡ 0)) ⊎ ((T ≤ t) × (t % T + T ≡ t) × (t / T ≡ 1))
split T t small =
    ⊎_elim
    (λ (lt : t < T).
    let e : t ≡ 0 * T + t = omega arith in
    inl (lt, ap (λ n. n % T) e ∙ mod-mul-add 0 T t lt, ap (λ n. n / T) e ∙ div-mul-add 0 T t lt))
    (λ (ge : T ≤ t).
    let e : t ≡ 1 * T + (t - T) = omega arith in
    let below : t % T ≡ t - T = ap (λ n. n % T) e ∙ mod-mul-add 1 T (t - T) (omega arith) in
    inr (ge, omega arith, ap (λ n. n / T) e ∙ div-mul-add 1 T (t - T) (omega arith)))
    (cases_lt t T)

-- the highest bit of a number below twice P
pub top_bit : (P h : ℕ) → h < 2 * P → ((h < P) × (h / P % 2 ≡ 0)) ⊎ ((P ≤ h) × (h / P % 2 ≡ 1))
top_bit P h small = ⊎_elim (λ q. inl (q.0, ap (λ n. n % 2) q.2)) (λ q. inr (q.0, ap (λ n. n % 2) q.2)) (split P h small)
