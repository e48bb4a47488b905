-- The first of two answers.
use Rattle.std.proofs.Common.{◌≡◌, true, false, Option, Some, None, is_some, refl, sym, ap, ◌∙◌}
use Rattle.std.specs.Option.{option_or}

same : {X : Type 0} (a : X) (o z : Option X) → o ≡ Some a → o ≡ option_or o z
same a (Some b) z at = refl
same a None z at = absurd cc

pub or_first : {X : Type 0} (x y z : Option X) → x ≡ y → is_some x ≡ true → x ≡ option_or y z
or_first (Some a) y z e h = e ∙ same a y z (sym e)
or_first None y z e h = absurd (let wrong : false ≡ true = h in cc)

pub or_second : {X : Type 0} (x y z given : Option X) → x ≡ y → is_some x ≡ false → given ≡ z → given ≡ option_or y z
or_second (Some a) y z given e h g = absurd (let wrong : true ≡ false = h in cc)
or_second None y z given e h g = g ∙ ap (λ o. option_or o z) e
