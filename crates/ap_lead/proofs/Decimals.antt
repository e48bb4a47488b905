-- Decimal numbers of one digit.
use Rattle.std.proofs.Common.{◌≡◌, ℕ, zero, suc, ◌+◌, ◌/◌, ◌%◌, ◌<◌, ◌≤◌, ◌==◌, Bool, true, false, if◌then◌else◌, List, [], ◌∷◌, length, refl, sym, ap, ◌∙◌, arith}
use Rattle.std.specs.Fmt.{decimal, digit_glyph, digits, digits_onto}
use Rattle.std.proofs.lemmas.Bool.{eqb-true}
use Rattle.std.proofs.lemmas.Fmt.{decimal_digit, decimal_injective}

abbrev last_glyph : ℕ → ℕ
last_glyph n = digit_glyph false (n % 10)

-- digits come before those that are there
spelled : (k n : ℕ) (acc : List ℕ) → length acc ≤ length (digits_onto k 10 false n acc)
spelled zero n acc = omega arith
spelled (suc k) n acc = go (n / 10 == 0) (spelled k (n / 10) (last_glyph n ∷ acc))
  where
    go : (b : Bool) → length (last_glyph n ∷ acc) ≤ length (digits_onto k 10 false (n / 10) (last_glyph n ∷ acc))
        → length acc ≤ length (if b then last_glyph n ∷ acc else digits_onto k 10 false (n / 10) (last_glyph n ∷ acc))
    go true h = omega arith
    go false h = omega (arith, h)

spelled_more : (k n : ℕ) (acc : List ℕ) → length acc + 1 ≤ length (digits_onto (suc k) 10 false n acc)
spelled_more k n acc = go (n / 10 == 0) (spelled k (n / 10) (last_glyph n ∷ acc))
  where
    go : (b : Bool) → length (last_glyph n ∷ acc) ≤ length (digits_onto k 10 false (n / 10) (last_glyph n ∷ acc))
        → length acc + 1 ≤ length (if b then last_glyph n ∷ acc else digits_onto k 10 false (n / 10) (last_glyph n ∷ acc))
    go true h = omega arith
    go false h = omega (arith, h)

spelled_all : (n : ℕ) → digits_onto 64 10 false n [] ≡ decimal n
unfolding digits
spelled_all n = refl

-- a number that is written as 0 or 1 is that
pub decimal_low : (n j : ℕ) → n < 2 → decimal n ≡ decimal j → n ≡ j
decimal_low n j low e = go (j / 10 == 0) refl
  where
    one : length (decimal j) ≡ 1
    one = ap length (sym e ∙ decimal_digit n (omega (arith, low)))

    go : (b : Bool) → (j / 10 == 0) ≡ b → n ≡ j
    go true on = let small = eqb-true (j / 10) 0 on in decimal_injective n j (omega (arith, low)) (omega (arith, small)) e
    go false off =
        let first : digits_onto 64 10 false j [] ≡ digits_onto 63 10 false (j / 10) (last_glyph j ∷ []) = ap (λ b. if b then last_glyph j ∷ [] else digits_onto 63 10 false (j / 10) (last_glyph j ∷ [])) off in
        let long : length (decimal j) ≡ length (digits_onto 63 10 false (j / 10) (last_glyph j ∷ [])) = ap length (sym (spelled_all j) ∙ first) in
        let more = spelled_more 62 (j / 10) (last_glyph j ∷ []) in
        absurd (omega (arith, one, long, more))
