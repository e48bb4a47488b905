-- What a label's token names is a name.
use Rattle.std.proofs.Common.{◌≡◌, ℕ, ◌+◌, ◌&&◌, List, length, take, Option, Some, None, inl, inr, sym, ap, ◌∙◌}
use Rattle.std.specs.Prelude.{option_and_then, position, ◌==◌}
use Rattle.std.proofs.lemmas.Bool.{and_parts, cases_Bool, cond-false, cond-true}
use Rattle.std.proofs.lemmas.Option.{same_Some}
use Rattle.ap_bits.specs.Names.{IsName, is_name}
use Rattle.ap_program.specs.Statements.{label_before, label_in}

before_is_name : (token : List ℕ) (place : ℕ) (name : List ℕ) → label_before token place ≡ Some name → IsName name
before_is_name token place name e = elim (cases_Bool ((place + 1 == length token) && is_name (take place token))) [
  | inl hit ↦ (let is : take place token ≡ name = same_Some (take place token) name (sym (cond-true ((place + 1 == length token) && is_name (take place token)) (Some (take place token)) None hit) ∙ e) in
      ap is_name (sym is) ∙ (and_parts (place + 1 == length token) (is_name (take place token)) hit).1)
  | inr miss ↦ absurd (let none : None ≡ Some name = sym (cond-false ((place + 1 == length token) && is_name (take place token)) (Some (take place token)) None miss) ∙ e in cc)
]

pub label_is_name : (token name : List ℕ) → Some name ≡ label_in token → IsName name
unfolding label_in
label_is_name token name e = by (position (λ b. b == 58) token) (sym e)
  where
    by : (o : Option ℕ) → option_and_then (label_before token) o ≡ Some name → IsName name
    by None h = absurd cc
    by (Some place) h = before_is_name token place name h
