-- What a sum carries out of its width, by the highest bits of the operands and of the sum.
use Rattle.std.proofs.Common.{◌≡◌, ℕ, suc, ◌+◌, ◌-◌, ◌*◌, ◌/◌, ◌%◌, ◌^◌, ◌<◌, ◌≤◌, ⊎_elim, inl, inr, refl, sym, ap, subst, ◌∙◌, arith}
use Rattle.std.specs.Prelude.{◌==◌, ◌⊎◌, bit_and, bit_or, if◌then◌else◌}
use Rattle.std.proofs.Math.Nat.{pow-suc, div-one}
use Rattle.std.proofs.lemmas.Nat.{div-add-mod'}
use Rattle.ap_unit.specs.Methods.{State}
use Rattle.ap_unit.proofs.TopBits.{split, top_bit, bit_cases}
use Rattle.ap_mul.specs.Products.{product_step}

by_bits : (P h m s c x y z : ℕ) → h < 2 * P → m < 2 * P → s < 2 * P
    → ((h < P) × (x ≡ 0)) ⊎ ((P ≤ h) × (x ≡ 1)) → ((m < P) × (y ≡ 0)) ⊎ ((P ≤ m) × (y ≡ 1)) → ((s < P) × (z ≡ 0)) ⊎ ((P ≤ s) × (z ≡ 1))
    → ((h + m < 2 * P) × (s ≡ h + m) × (c ≡ 0)) ⊎ ((2 * P ≤ h + m) × (s + 2 * P ≡ h + m) × (c ≡ 1))
    → (if z == 1 then bit_and x y else bit_or x y) ≡ c
by_bits P h m s c x y z sh sm ss (inl hx) (inl hy) (inl hz) (inl hc) = rw (hx.1, hy.1, hz.1, hc.2) refl
by_bits P h m s c x y z sh sm ss (inl hx) (inl hy) (inl hz) (inr hc) = absurd (omega arith)
by_bits P h m s c x y z sh sm ss (inl hx) (inl hy) (inr hz) (inl hc) = rw (hx.1, hy.1, hz.1, hc.2) refl
by_bits P h m s c x y z sh sm ss (inl hx) (inl hy) (inr hz) (inr hc) = absurd (omega arith)
by_bits P h m s c x y z sh sm ss (inl hx) (inr hy) (inl hz) (inl hc) = absurd (omega arith)
by_bits P h m s c x y z sh sm ss (inl hx) (inr hy) (inl hz) (inr hc) = rw (hx.1, hy.1, hz.1, hc.2) refl
by_bits P h m s c x y z sh sm ss (inl hx) (inr hy) (inr hz) (inl hc) = rw (hx.1, hy.1, hz.1, hc.2) refl
by_bits P h m s c x y z sh sm ss (inl hx) (inr hy) (inr hz) (inr hc) = absurd (omega arith)
by_bits P h m s c x y z sh sm ss (inr hx) (inl hy) (inl hz) (inl hc) = absurd (omega arith)
by_bits P h m s c x y z sh sm ss (inr hx) (inl hy) (inl hz) (inr hc) = rw (hx.1, hy.1, hz.1, hc.2) refl
by_bits P h m s c x y z sh sm ss (inr hx) (inl hy) (inr hz) (inl hc) = rw (hx.1, hy.1, hz.1, hc.2) refl
by_bits P h m s c x y z sh sm ss (inr hx) (inl hy) (inr hz) (inr hc) = absurd (omega arith)
by_bits P h m s c x y z sh sm ss (inr hx) (inr hy) (inl hz) (inl hc) = absurd (omega arith)
by_bits P h m s c x y z sh sm ss (inr hx) (inr hy) (inl hz) (inr hc) = rw (hx.1, hy.1, hz.1, hc.2) refl
by_bits P h m s c x y z sh sm ss (inr hx) (inr hy) (inr hz) (inl hc) = absurd (omega arith)
by_bits P h m s c x y z sh sm ss (inr hx) (inr hy) (inr hz) (inr hc) = rw (hx.1, hy.1, hz.1, hc.2) refl

pub carry_is : (w h m s : ℕ) → 1 ≤ w → h < 2 ^ w → m < 2 ^ w → s ≡ (h + m) % 2 ^ w
    → (if s / 2 ^ (w - 1) % 2 == 1 then bit_and (h / 2 ^ (w - 1) % 2) (m / 2 ^ (w - 1) % 2) else bit_or (h / 2 ^ (w - 1) % 2) (m / 2 ^ (w - 1) % 2)) ≡ (h + m) / 2 ^ w
carry_is w h m s some sh sm is =
    let one : w ≡ suc (w - 1) = omega arith in
    let twice : 2 ^ w ≡ 2 ^ (w - 1) * 2 = ap (λ n. 2 ^ n) one ∙ pow-suc 2 (w - 1) in
    let sh' : h < 2 * 2 ^ (w - 1) = omega arith in
    let sm' : m < 2 * 2 ^ (w - 1) = omega arith in
    let whole = split (2 ^ w) (h + m) (omega arith) in
    let sums : ((h + m < 2 * 2 ^ (w - 1)) × (s ≡ h + m) × ((h + m) / 2 ^ w ≡ 0)) ⊎ ((2 * 2 ^ (w - 1) ≤ h + m) × (s + 2 * 2 ^ (w - 1) ≡ h + m) × ((h + m) / 2 ^ w ≡ 1)) =
    ⊎_elim (λ q. inl (omega (arith, q.0), is ∙ q.1, q.2)) (λ q. inr (omega (arith, q.0), omega (arith, q.1), q.2)) whole in
    let ss : s < 2 * 2 ^ (w - 1) = ⊎_elim (λ q. omega (arith, q.1)) (λ q. omega (arith, q.1)) sums in
    by_bits (2 ^ (w - 1)) h m s ((h + m) / 2 ^ w) (h / 2 ^ (w - 1) % 2) (m / 2 ^ (w - 1) % 2) (s / 2 ^ (w - 1) % 2) sh' sm' ss (top_bit (2 ^ (w - 1)) h sh') (top_bit (2 ^ (w - 1)) m sm') (top_bit (2 ^ (w - 1)) s ss) sums

-- a sum is what it carries and what stays
pub sum_parts : (w t : ℕ) → 1 ≤ w → t / 2 ^ w * 2 ^ (w - 1) + t % 2 ^ w / 2 ≡ t / 2
sum_parts w t some =
    let one : w ≡ suc (w - 1) = omega arith in
    let twice : 2 ^ w ≡ 2 ^ (w - 1) * 2 = ap (λ n. 2 ^ n) one ∙ pow-suc 2 (w - 1) in
    let whole : t / 2 ^ w * 2 ^ w + t % 2 ^ w ≡ t = div-add-mod' t (2 ^ w) in
    let split : t / 2 ^ w * 2 ^ w ≡ 2 * (t / 2 ^ w * 2 ^ (w - 1)) = ap (λ n. t / 2 ^ w * n) twice ∙ omega arith in
    omega arith

-- and its lowest bit is that of what stays
pub sum_lowest : (w t : ℕ) → 1 ≤ w → t % 2 ^ w % 2 ≡ t % 2
sum_lowest w t some =
    let one : w ≡ suc (w - 1) = omega arith in
    let twice : 2 ^ w ≡ 2 ^ (w - 1) * 2 = ap (λ n. 2 ^ n) one ∙ pow-suc 2 (w - 1) in
    let whole : t / 2 ^ w * 2 ^ w + t % 2 ^ w ≡ t = div-add-mod' t (2 ^ w) in
    let split : t / 2 ^ w * 2 ^ w ≡ 2 * (t / 2 ^ w * 2 ^ (w - 1)) = ap (λ n. t / 2 ^ w * n) twice ∙ omega arith in
    omega arith

-- a net of one bit moved down
pub moved_one : (w x t : ℕ) → w ≡ 1 → x < 2 ^ w → t ≡ t * 2 ^ (w - 1) + x / 2
moved_one w x t one small = subst (λ n. x < 2 ^ n → t ≡ t * 2 ^ (n - 1) + x / 2) (sym one) (λ (s : x < 2). omega arith) small

-- an operand that is there where the lowest bit is 1
pub once : (x a : ℕ) → (if x / 2 ^ 0 % 2 == 1 then a else 0) ≡ x % 2 * a
once x a =
    let whole : x / 2 ^ 0 ≡ x = div-one x in
    ap (λ n. if n % 2 == 1 then a else 0) whole
    ∙ ⊎_elim (λ e. subst (λ n. (if n == 1 then a else 0) ≡ n * a) (sym e) (omega arith)) (λ e. subst (λ n. (if n == 1 then a else 0) ≡ n * a) (sym e) (omega arith)) (bit_cases (x % 2) (omega arith))

-- the nets of a step have what a step makes
pub made_step : (w a H L m s c o h l ws wh wl : ℕ) → 1 ≤ w → ws ≡ wh → wh ≡ w → wl ≡ w → m ≡ L % 2 * a → s ≡ (H + m) % 2 ^ wh → c ≡ (H + m) / 2 ^ wh → o ≡ s / 2 ^ 0 % 2
    → h ≡ c * 2 ^ (ws - 1) + s / 2 → l ≡ o * 2 ^ (wl - 1) + L / 2
    → (let made : State = record { high = h; low = l } in made ≡ product_step w a (record { high = H; low = L }))
made_step w a H L m s c o h l ws wh wl some es eh el is_m is_s is_c is_o is_h is_l =
    let sum : s ≡ (H + L % 2 * a) % 2 ^ w = is_s ∙ (λ i. (H + is_m i) % 2 ^ eh i) in
    let carry : c ≡ (H + L % 2 * a) / 2 ^ w = is_c ∙ (λ i. (H + is_m i) / 2 ^ eh i) in
    let high : h ≡ (H + L % 2 * a) / 2 = is_h ∙ (λ i. carry i * 2 ^ ((es ∙ eh) i - 1) + sum i / 2) ∙ sum_parts w (H + L % 2 * a) some in
    let lowest : o ≡ (H + L % 2 * a) % 2 = is_o ∙ ap (λ n. n % 2) (div-one s) ∙ ap (λ n. n % 2) sum ∙ sum_lowest w (H + L % 2 * a) some in
    let low : l ≡ (H + L % 2 * a) % 2 * 2 ^ (w - 1) + L / 2 = is_l ∙ (λ i. lowest i * 2 ^ (el i - 1) + L / 2) in
    λ i. record { high = high i; low = low i }
