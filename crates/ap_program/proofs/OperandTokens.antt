-- Operands, token by token.
use Rattle.std.proofs.Common.{◌≡◌, ℕ, List, [], ◌∷◌, ◌++◌, Option, Some, None, refl, ap}
use Rattle.std.proofs.lemmas.Option.{same_Some}
use Rattle.ap_program.specs.Statements.{before_operands, operand_in, operands_in}
use Rattle.ap_program.specs.declared.statement.Written.{Written}

-- an operand before others
before_parts : (one : Option Written) (rest : Option (List Written)) (os : List Written) → before_operands one rest ≡ Some os
    → (o : Written) × (ws : List Written) × (one ≡ Some o) × (rest ≡ Some ws) × (o ∷ ws ≡ os)
before_parts None rest os e = absurd cc
before_parts (Some o) None os e = absurd cc
before_parts (Some o) (Some ws) os e = (o, ws, refl, refl, same_Some (o ∷ ws) os e)

before_none : (one : Option Written) → before_operands one None ≡ None
before_none None = refl
before_none (Some o) = refl

-- one more operand
pub operands_push : (front : List (List ℕ)) (t : List ℕ) (os : List Written) (o : Written) → operands_in front ≡ Some os → operand_in t ≡ Some o → operands_in (front ++ t ∷ []) ≡ Some (os ++ o ∷ [])
operands_push [] t os o e g = let same : [] ≡ os = same_Some [] os e in rw g (ap (λ (l : List Written). Some (l ++ o ∷ [])) same)
operands_push (x ∷ xs) t os o e g =
    let p = before_parts (operand_in x) (operands_in xs) os e in
    rw (p.2, operands_push xs t p.1 o p.3 g) (ap (λ (l : List Written). Some (l ++ o ∷ [])) p.4)

-- something that is no operand
pub operands_stuck : (front : List (List ℕ)) (t : List ℕ) (rest : List (List ℕ)) → operand_in t ≡ None → operands_in (front ++ t ∷ rest) ≡ None
operands_stuck [] t rest g = rw g refl
operands_stuck (x ∷ xs) t rest g = rw (operands_stuck xs t rest g) (before_none (operand_in x))
