-- The decimal digits of a number, the last one apart.
use Rattle.std.proofs.Common.{◌≡◌, ℕ, ◌≤◌, ◌<◌, ◌^◌, ◌/◌, ◌%◌, ◌+◌, List, [], ◌∷◌, ◌++◌, sym, ap, ◌∙◌, append_assoc}
use Rattle.std.specs.Fmt.{decimal}
use Rattle.std.proofs.lemmas.Fmt.{decimal_digit, decimal_step}
use Rattle.ap_image.proofs.Kept.{kept_same, kept_more, kept_on}

-- a number below ten
pub digit_last : (before after : List ℕ) (n : ℕ) → n < 10 → after ≡ before ++ (48 + n) ∷ [] → after ≡ before ++ decimal n
digit_last before after n lt e = e ∙ ap (λ l. before ++ l) (sym (decimal_digit n lt))

-- any other
pub digit_more : (before mid after : List ℕ) (n : ℕ) → 10 ≤ n → n < 2 ^ 64 → mid ≡ before ++ decimal (n / 10) → after ≡ mid ++ (48 + n % 10) ∷ [] → after ≡ before ++ decimal n
digit_more before mid after n le lt e f = f ∙ ap (λ l. l ++ (48 + n % 10) ∷ []) e ∙ append_assoc before (decimal (n / 10)) ((48 + n % 10) ∷ []) ∙ ap (λ l. before ++ l) (sym (decimal_step n le lt))

pub ruleset digits = (digit_last, digit_more, kept_same, kept_more, kept_on)
