-- A text between two others.
use Rattle.std.proofs.Common.{◌≡◌, ◌≢◌, ℕ, Bool, true, false, List, ◌++◌, Option, Some, None, refl, sym, ap, subst, ◌∙◌, append_assoc}
use Rattle.std.specs.Prelude.{IfNone, IfSome, MatchOption, if◌then◌else◌}
use Rattle.std.specs.Borrow.{Bor}
use Rattle.std.proofs.lemmas.Bool.{both_ways}
use Rattle.std.proofs.lemmas.List.{append_cancel_left, append_cancel_right}
use Rattle.ap_bits.specs.Names.{IsName, is_name}

pub between_before : (s before after : List ℕ) → ((rest : List ℕ) → s ≢ before ++ rest) → (middle : List ℕ) → s ≢ before ++ middle ++ after
between_before s before after none middle e = none (middle ++ after) (e ∙ append_assoc before middle after)

pub between_after : (s before after rest : List ℕ) → s ≡ before ++ rest → ((front : List ℕ) → rest ≢ front ++ after) → (middle : List ℕ) → s ≢ before ++ middle ++ after
between_after s before after rest is none middle e = none middle (append_cancel_left before rest (middle ++ after) (sym is ∙ e ∙ append_assoc before middle after))

pub between_some : (s before after rest middle : List ℕ) → s ≡ before ++ rest → rest ≡ middle ++ after → s ≡ before ++ middle ++ after
between_some s before after rest middle is ends = is ∙ ap (λ t. before ++ t) ends ∙ sym (append_assoc before middle after)

pub one_between : (before after a b : List ℕ) → before ++ a ++ after ≡ before ++ b ++ after → a ≡ b
one_between before after a b e = append_cancel_left before a b (append_cancel_right (before ++ a) (before ++ b) after e)

-- after the beginning, what is before the end
pub between_rest : (s before after rest : List ℕ) (r : Option (Bor (List ℕ))) → s ≡ before ++ rest → MatchOption r ((front : List ℕ) → rest ≢ front ++ after) (λ x. rest ≡ x.now ++ after)
    → IfSome r (λ x. s ≡ before ++ x.now ++ after) × IfNone r ((middle : List ℕ) → s ≢ before ++ middle ++ after)
between_rest s before after rest None is h = (tt, between_after s before after rest is h)
between_rest s before after rest (Some x) is h = (between_some s before after rest x.now is h, tt)

-- a text between that is a name, or none
pub named_between : (s before after middle : List ℕ) (found : Option (List ℕ)) → s ≡ before ++ middle ++ after → found ≡ (if is_name middle then Some middle else None)
    → IfSome found (λ m. IsName m × (s ≡ before ++ m ++ after)) × IfNone found ((m : List ℕ) → IsName m → s ≢ before ++ m ++ after)
named_between s before after middle found is e = go found (is_name middle) refl e where
  go : (f : Option (List ℕ)) (b : Bool) → is_name middle ≡ b → f ≡ (if b then Some middle else None)
      → IfSome f (λ m. IsName m × (s ≡ before ++ m ++ after)) × IfNone f ((m : List ℕ) → IsName m → s ≢ before ++ m ++ after)
  go None true named f = absurd cc
  go (Some m) true named f = let same : m ≡ middle = cc in ((subst IsName (sym same) named, is ∙ ap (λ x. before ++ x ++ after) (sym same)), tt)
  go None false miss f = (tt, λ m named there. both_ways (is_name middle) miss (ap is_name (one_between before after middle m (sym is ∙ there)) ∙ named))
  go (Some m) false miss f = absurd cc
