-- A difference that isn't below 0, by highest bits, and the nets of a step of the divider.
use Rattle.std.proofs.Common.{◌≡◌, ℕ, suc, ◌+◌, ◌-◌, ◌*◌, ◌/◌, ◌%◌, ◌^◌, ◌<◌, ◌≤◌, ⊎_elim, inl, inr, refl, sym, ap, subst, ◌∙◌, arith}
use Rattle.std.specs.Prelude.{◌==◌, ◌⊎◌, bit_and, bit_or, if◌then◌else◌}
use Rattle.std.proofs.Math.Nat.{pow-suc, mod-one}
use Rattle.std.proofs.lemmas.Nat.{mod-mul-add, div-add-mod', mod_below}
use Rattle.std.proofs.lemmas.Bool.{cases_lt, lt-ltb, le-ltb}
use Rattle.ap_unit.specs.Methods.{State}
use Rattle.ap_unit.proofs.TopBits.{split, top_bit, bit_cases}
use Rattle.ap_div.specs.Differences.{cover_of}
use Rattle.ap_div.specs.Quotients.{longer_rest, quotient_step}

by_bits : (P x y d c s t r : ℕ) → x < 2 * P → y < 2 * P → d < 2 * P
    → ((x < P) × (s ≡ 0)) ⊎ ((P ≤ x) × (s ≡ 1)) → ((y < P) × (t ≡ 0)) ⊎ ((P ≤ y) × (t ≡ 1)) → ((d < P) × (r ≡ 0)) ⊎ ((P ≤ d) × (r ≡ 1))
    → ((x < y) × (d + y ≡ x + 2 * P) × (c ≡ 0)) ⊎ ((y ≤ x) × (d + y ≡ x) × (c ≡ 1))
    → (if r == 1 then bit_and s (1 - t) else bit_or s (1 - t)) ≡ c
by_bits P x y d c s t r sx sy sd (inl hx) (inl hy) (inl hd) (inl hc) = absurd (omega arith)
by_bits P x y d c s t r sx sy sd (inl hx) (inl hy) (inl hd) (inr hc) = rw (hx.1, hy.1, hd.1, hc.2) refl
by_bits P x y d c s t r sx sy sd (inl hx) (inl hy) (inr hd) (inl hc) = rw (hx.1, hy.1, hd.1, hc.2) refl
by_bits P x y d c s t r sx sy sd (inl hx) (inl hy) (inr hd) (inr hc) = absurd (omega arith)
by_bits P x y d c s t r sx sy sd (inl hx) (inr hy) (inl hd) (inl hc) = rw (hx.1, hy.1, hd.1, hc.2) refl
by_bits P x y d c s t r sx sy sd (inl hx) (inr hy) (inl hd) (inr hc) = absurd (omega arith)
by_bits P x y d c s t r sx sy sd (inl hx) (inr hy) (inr hd) (inl hc) = rw (hx.1, hy.1, hd.1, hc.2) refl
by_bits P x y d c s t r sx sy sd (inl hx) (inr hy) (inr hd) (inr hc) = absurd (omega arith)
by_bits P x y d c s t r sx sy sd (inr hx) (inl hy) (inl hd) (inl hc) = absurd (omega arith)
by_bits P x y d c s t r sx sy sd (inr hx) (inl hy) (inl hd) (inr hc) = rw (hx.1, hy.1, hd.1, hc.2) refl
by_bits P x y d c s t r sx sy sd (inr hx) (inl hy) (inr hd) (inl hc) = absurd (omega arith)
by_bits P x y d c s t r sx sy sd (inr hx) (inl hy) (inr hd) (inr hc) = rw (hx.1, hy.1, hd.1, hc.2) refl
by_bits P x y d c s t r sx sy sd (inr hx) (inr hy) (inl hd) (inl hc) = absurd (omega arith)
by_bits P x y d c s t r sx sy sd (inr hx) (inr hy) (inl hd) (inr hc) = rw (hx.1, hy.1, hd.1, hc.2) refl
by_bits P x y d c s t r sx sy sd (inr hx) (inr hy) (inr hd) (inl hc) = rw (hx.1, hy.1, hd.1, hc.2) refl
by_bits P x y d c s t r sx sy sd (inr hx) (inr hy) (inr hd) (inr hc) = absurd (omega arith)

twice : (w : ℕ) → 1 ≤ w → 2 ^ w ≡ 2 ^ (w - 1) * 2
twice w some = let one : w ≡ suc (w - 1) = omega arith in ap (λ n. 2 ^ n) one ∙ pow-suc 2 (w - 1)

-- what a difference is where it is below 0, and where it isn't
cover_cases : (P T x y d : ℕ) → T ≡ P * 2 → x < T → y < T → d ≡ (x + T - y) % T
    → ((x < y) × (d + y ≡ x + 2 * P) × (cover_of x y ≡ 0)) ⊎ ((y ≤ x) × (d + y ≡ x) × (cover_of x y ≡ 1))
cover_cases P T x y d double sx sy is = by_order (cases_lt x y)
  where
    low : x < y → (x + T - y) % T ≡ x + T - y
    low lt = ⊎_elim (λ q. q.1) (λ q. absurd (omega (arith, q.0))) (split T (x + T - y) (omega arith))

    high : y ≤ x → (x + T - y) % T + T ≡ x + T - y
    high ge = ⊎_elim (λ q. absurd (omega (arith, q.0))) (λ q. q.1) (split T (x + T - y) (omega arith))

    by_order : (x < y) ⊎ (y ≤ x) → ((x < y) × (d + y ≡ x + 2 * P) × (cover_of x y ≡ 0)) ⊎ ((y ≤ x) × (d + y ≡ x) × (cover_of x y ≡ 1))
    by_order (inl lt) = inl (lt, omega (arith, low lt), rw (lt-ltb x y lt) refl)
    by_order (inr ge) = inr (ge, omega (arith, high ge), rw (le-ltb x y ge) refl)

difference_small : (P x y d c : ℕ) → x < 2 * P → ((x < y) × (d + y ≡ x + 2 * P) × (c ≡ 0)) ⊎ ((y ≤ x) × (d + y ≡ x) × (c ≡ 1)) → d < 2 * P
difference_small P x y d c sx (inl q) = omega (arith, q.0, q.1)
difference_small P x y d c sx (inr q) = omega (arith, q.1)

pub cover_is : (w x y d : ℕ) → 1 ≤ w → x < 2 ^ w → y < 2 ^ w → d ≡ (x + 2 ^ w - y) % 2 ^ w
    → (if d / 2 ^ (w - 1) % 2 == 1 then bit_and (x / 2 ^ (w - 1) % 2) (1 - y / 2 ^ (w - 1) % 2) else bit_or (x / 2 ^ (w - 1) % 2) (1 - y / 2 ^ (w - 1) % 2)) ≡ cover_of x y
cover_is w x y d some sx sy is =
    let double = twice w some in
    let sx' : x < 2 * 2 ^ (w - 1) = omega arith in
    let sy' : y < 2 * 2 ^ (w - 1) = omega arith in
    let cases = cover_cases (2 ^ (w - 1)) (2 ^ w) x y d double sx sy is in
    let sd = difference_small (2 ^ (w - 1)) x y d (cover_of x y) sx' cases in
    by_bits (2 ^ (w - 1)) x y d (cover_of x y) (x / 2 ^ (w - 1) % 2) (y / 2 ^ (w - 1) % 2) (d / 2 ^ (w - 1) % 2) sx' sy' sd (top_bit (2 ^ (w - 1)) x sx') (top_bit (2 ^ (w - 1)) y sy') (top_bit (2 ^ (w - 1)) d sd) cases

-- a net of one bit moved up
pub moved_one : (w x t : ℕ) → w ≡ 1 → t ≡ x % 2 ^ (w - 1) * 2 + t
moved_one w x t one = subst (λ n. t ≡ x % 2 ^ (n - 1) * 2 + t) (sym one) (let none : x % 1 ≡ 0 = mod-one x in omega arith)

-- the longer rest without the bit that goes out
pub longer_is : (w H L n y wl : ℕ) → 1 ≤ w → H < 2 ^ w → L < 2 ^ w → wl ≡ w → n ≡ L / 2 ^ (wl - 1) % 2 → y ≡ H % 2 ^ (w - 1) * 2 + n
    → y ≡ longer_rest w (record { high = H; low = L }) % 2 ^ w
longer_is w H L n y wl some sh sl el is_n is =
    let double = twice w some in
    let sl' : L < 2 * 2 ^ (w - 1) = omega arith in
    let top : L / 2 ^ (w - 1) < 2 = ⊎_elim (λ q. omega (arith, q.2)) (λ q. omega (arith, q.2)) (split (2 ^ (w - 1)) L sl') in
    let bit : n ≡ L / 2 ^ (w - 1) = is_n ∙ ap (λ k. L / 2 ^ (k - 1) % 2) el ∙ omega arith in
    let whole : H / 2 ^ (w - 1) * 2 ^ (w - 1) + H % 2 ^ (w - 1) ≡ H = div-add-mod' H (2 ^ (w - 1)) in
    let less : H % 2 ^ (w - 1) < 2 ^ (w - 1) = mod_below H (2 ^ (w - 1)) (omega arith) in
    let small : H % 2 ^ (w - 1) * 2 + L / 2 ^ (w - 1) < 2 ^ w = omega arith in
    let apart : H * 2 + L / 2 ^ (w - 1) ≡ H / 2 ^ (w - 1) * 2 ^ w + (H % 2 ^ (w - 1) * 2 + L / 2 ^ (w - 1)) =
    ap (λ k. k * 2 + L / 2 ^ (w - 1)) (sym whole) ∙ regroup (H / 2 ^ (w - 1)) (2 ^ (w - 1)) (H % 2 ^ (w - 1)) (L / 2 ^ (w - 1)) ∙ ap (λ k. H / 2 ^ (w - 1) * k + (H % 2 ^ (w - 1) * 2 + L / 2 ^ (w - 1))) (sym double) in
    is ∙ ap (λ k. H % 2 ^ (w - 1) * 2 + k) bit ∙ sym (ap (λ k. k % 2 ^ w) apart ∙ mod-mul-add (H / 2 ^ (w - 1)) (2 ^ w) (H % 2 ^ (w - 1) * 2 + L / 2 ^ (w - 1)) small)
  where
    regroup : (q P r l : ℕ) → (q * P + r) * 2 + l ≡ q * (P * 2) + (r * 2 + l)
    regroup q P r l = omega arith

one_or : (c : ℕ) → c < 2 → bit_or 1 c ≡ 1
one_or c small = ⊎_elim (λ e. ap (bit_or 1) e) (λ e. ap (bit_or 1) e) (bit_cases c small)

flag_small : (x y : ℕ) → cover_of x y < 2
flag_small x y = ⊎_elim (λ lt. rw (lt-ltb x y lt) (omega arith)) (λ ge. rw (le-ltb x y ge) (omega arith)) (cases_lt x y)

same_state : (h l h' l' : ℕ) → h ≡ h' → l ≡ l' → (let one : State = record { high = h; low = l } in let other : State = record { high = h'; low = l' } in one ≡ other)
same_state h l h' l' eh el = λ i. record { high = eh i; low = el i }

-- where the divisor goes into the longer rest, a step takes it off
taken : (w b : ℕ) (state : State) (h l : ℕ) → b ≤ longer_rest w state → h ≡ (longer_rest w state - b) % 2 ^ w → l ≡ state.low % 2 ^ (w - 1) * 2 + 1
    → (let made : State = record { high = h; low = l } in made ≡ quotient_step w b state)
taken w b state h l fits eh el = rw (le-ltb (longer_rest w state) b fits) (same_state h l _ _ eh el)

left : (w b : ℕ) (state : State) (h l : ℕ) → longer_rest w state < b → h ≡ longer_rest w state → l ≡ state.low % 2 ^ (w - 1) * 2
    → (let made : State = record { high = h; low = l } in made ≡ quotient_step w b state)
left w b state h l less eh el = rw (lt-ltb (longer_rest w state) b less) (same_state h l _ _ eh el)

-- the nets of a step have what a step makes
pub made_step : (w b H L x d cover fits h l wh wl wx : ℕ) → 1 ≤ w → b < 2 ^ w → H < 2 ^ w → L < 2 ^ w → wx ≡ wh → wh ≡ w → wl ≡ w
    → x ≡ longer_rest wh (record { high = H; low = L }) % 2 ^ wh → d ≡ (x + 2 ^ wx - b) % 2 ^ wx → cover ≡ cover_of x b
    → fits ≡ bit_or (H / 2 ^ (wh - 1) % 2) cover → h ≡ (if fits == 1 then d else x) → l ≡ L % 2 ^ (wl - 1) * 2 + fits
    → (let made : State = record { high = h; low = l } in made ≡ quotient_step w b (record { high = H; low = L }))
made_step w b H L x d cover fits h l wh wl wx some sb sh sl ex eh el is_x is_d is_cover is_fits is_h is_l =
    let state : State = record { high = H; low = L } in
    let double : 2 ^ w ≡ 2 ^ (w - 1) * 2 = twice w some in
    let sh' : H < 2 * 2 ^ (w - 1) = omega arith in
    let sl' : L < 2 * 2 ^ (w - 1) = omega arith in
    let top : L / 2 ^ (w - 1) < 2 = ⊎_elim (λ q. omega (arith, q.2)) (λ q. omega (arith, q.2)) (split (2 ^ (w - 1)) L sl') in
    let rest : x ≡ (H * 2 + L / 2 ^ (w - 1)) % 2 ^ w = is_x ∙ ap (λ n. longer_rest n state % 2 ^ n) eh in
    let less : d ≡ (x + 2 ^ w - b) % 2 ^ w = is_d ∙ ap (λ n. (x + 2 ^ n - b) % 2 ^ n) (ex ∙ eh) in
    let whether : fits ≡ bit_or (H / 2 ^ (w - 1) % 2) cover = is_fits ∙ ap (λ n. bit_or (H / 2 ^ (n - 1) % 2) cover) eh in
    let low : l ≡ L % 2 ^ (w - 1) * 2 + fits = is_l ∙ ap (λ n. L % 2 ^ (n - 1) * 2 + fits) el in
    let parts = split (2 ^ w) (H * 2 + L / 2 ^ (w - 1)) (omega arith) in
    ⊎_elim
    (λ q.
    let short : H * 2 + L / 2 ^ (w - 1) < 2 ^ w = omega (arith, q.0) in
    let same : x ≡ H * 2 + L / 2 ^ (w - 1) = rest ∙ ⊎_elim (λ p. p.1) (λ p. absurd (omega (arith, p.0))) parts in
    let one : fits ≡ bit_or 0 cover = whether ∙ ap (λ n. bit_or n cover) q.1 in
    ⊎_elim
    (λ (lt : x < b).
    let no : cover ≡ 0 = is_cover ∙ rw (lt-ltb x b lt) refl in
    let zero' : fits ≡ 0 = one ∙ ap (bit_or 0) no in
    left w b state h l (omega arith) (is_h ∙ ap (λ n. if n == 1 then d else x) zero' ∙ same) (low ∙ ap (λ n. L % 2 ^ (w - 1) * 2 + n) zero' ∙ omega arith))
    (λ (ge : b ≤ x).
    let yes : cover ≡ 1 = is_cover ∙ rw (le-ltb x b ge) refl in
    let one' : fits ≡ 1 = one ∙ ap (bit_or 0) yes in
    let again : x + 2 ^ w - b ≡ 1 * 2 ^ w + (x - b) = omega arith in
    let value : d ≡ x - b = less ∙ ap (λ n. n % 2 ^ w) again ∙ mod-mul-add 1 (2 ^ w) (x - b) (omega arith) in
    let alone : (x - b) % 2 ^ w ≡ x - b = let e : x - b ≡ 0 * 2 ^ w + (x - b) = omega arith in ap (λ n. n % 2 ^ w) e ∙ mod-mul-add 0 (2 ^ w) (x - b) (omega arith) in
    taken w b state h l (omega arith) (is_h ∙ ap (λ n. if n == 1 then d else x) one' ∙ value ∙ sym alone ∙ ap (λ n. (n - b) % 2 ^ w) same) (low ∙ ap (λ n. L % 2 ^ (w - 1) * 2 + n) one'))
    (cases_lt x b))
    (λ q.
    let long : 2 ^ w ≤ H * 2 + L / 2 ^ (w - 1) = omega (arith, q.0) in
    let same : x + 2 ^ w ≡ H * 2 + L / 2 ^ (w - 1) = ap (λ n. n + 2 ^ w) rest ∙ ⊎_elim (λ p. absurd (omega (arith, p.0))) (λ p. p.1) parts in
    let flag : cover < 2 = subst (λ n. n < 2) (sym is_cover) (flag_small x b) in
    let one' : fits ≡ 1 = whether ∙ ap (λ n. bit_or n cover) q.1 ∙ one_or cover flag in
    taken w b state h l (omega arith) (is_h ∙ ap (λ n. if n == 1 then d else x) one' ∙ less ∙ ap (λ n. (n - b) % 2 ^ w) same) (low ∙ ap (λ n. L % 2 ^ (w - 1) * 2 + n) one'))
    (top_bit (2 ^ (w - 1)) H sh')
