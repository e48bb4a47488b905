-- The nodes that are kept of a line's operands.
use Rattle.std.proofs.Common.{◌≡◌, ℕ, List, ◌++◌, Option, Some, None, inl, inr, sym, subst}
use Rattle.std.specs.Prelude.{◌⊎◌, ◌↔◌, bit_or, option_to_list}
use Rattle.ap_desc.specs.declared.design.Arg.{Arg}
use Rattle.ap_ports.specs.Flow.{Some_of, nodes_at}
use Rattle.ap_ports.specs.Ways.{Has}
use Rattle.ap_ports.specs.declared.flow.Locals.{Locals}
use Rattle.ap_ports.proofs.Holding.{OfOption, hold_three, three_hold}
use Rattle.ap_ports.proofs.Kept.{nothing_has}
use Rattle.ap_ports.proofs.Sets.{joined_has, joined_left, joined_right}

module _ (locals : Locals) (stage n : ℕ) where
  abbrev HasIt : Arg → Type 0
  HasIt a = Has (nodes_at locals stage (Some a)) n

  of_there : (o : Option Arg) → Has (nodes_at locals stage o) n → OfOption HasIt o
  of_there None has = nothing_has n has
  of_there (Some a) has = has

  of_back : (o : Option Arg) → OfOption HasIt o → Has (nodes_at locals stage o) n
  of_back None h = absurd h
  of_back (Some a) h = h

  either_there : (a b c : Option Arg) → Has (bit_or (nodes_at locals stage a) (bit_or (nodes_at locals stage b) (nodes_at locals stage c))) n → OfOption HasIt a ⊎ (OfOption HasIt b ⊎ OfOption HasIt c)
  either_there a b c has = elim (joined_has (nodes_at locals stage a) (bit_or (nodes_at locals stage b) (nodes_at locals stage c)) n has) [
    | inl one ↦ inl (of_there a one)
    | inr rest ↦ elim (joined_has (nodes_at locals stage b) (nodes_at locals stage c) n rest) [
      | inl two ↦ inr (inl (of_there b two))
      | inr three ↦ inr (inr (of_there c three))
    ]
  ]

  either_back : (a b c : Option Arg) → OfOption HasIt a ⊎ (OfOption HasIt b ⊎ OfOption HasIt c) → Has (bit_or (nodes_at locals stage a) (bit_or (nodes_at locals stage b) (nodes_at locals stage c))) n
  either_back a b c (inl one) = joined_left (nodes_at locals stage a) (bit_or (nodes_at locals stage b) (nodes_at locals stage c)) n (of_back a one)
  either_back a b c (inr (inl two)) =
      joined_right (nodes_at locals stage a) (bit_or (nodes_at locals stage b) (nodes_at locals stage c)) n (joined_left (nodes_at locals stage b) (nodes_at locals stage c) n (of_back b two))
  either_back a b c (inr (inr three)) =
      joined_right (nodes_at locals stage a) (bit_or (nodes_at locals stage b) (nodes_at locals stage c)) n (joined_right (nodes_at locals stage b) (nodes_at locals stage c) n (of_back c three))

-- the bits of three sets, which are those of three operands
pub sources_have : (locals : Locals) (stage : ℕ) (a b c : Option Arg) (operands : List Arg) (x y z : ℕ) → option_to_list a ++ (option_to_list b ++ option_to_list c) ≡ operands
    → x ≡ nodes_at locals stage a → y ≡ nodes_at locals stage b → z ≡ nodes_at locals stage c
    → (n : ℕ) → Has (bit_or x (bit_or y z)) n ↔ Some_of (λ a. Has (nodes_at locals stage (Some a)) n) operands
sources_have locals stage a b c operands x y z same one two three n = (there, back) where
  there : Has (bit_or x (bit_or y z)) n → Some_of (λ a. Has (nodes_at locals stage (Some a)) n) operands
  there has =
      let first = subst (λ k. Has (bit_or k (bit_or y z)) n) one has in
      let second = subst (λ k. Has (bit_or (nodes_at locals stage a) (bit_or k z)) n) two first in
      let third = subst (λ k. Has (bit_or (nodes_at locals stage a) (bit_or (nodes_at locals stage b) k)) n) three second in
      subst (Some_of (λ a. Has (nodes_at locals stage (Some a)) n)) same (three_hold (HasIt locals stage n) a b c (either_there locals stage n a b c third))

  back : Some_of (λ a. Has (nodes_at locals stage (Some a)) n) operands → Has (bit_or x (bit_or y z)) n
  back h =
      let some = hold_three (HasIt locals stage n) a b c (subst (Some_of (λ a. Has (nodes_at locals stage (Some a)) n)) (sym same) h) in
      let third = either_back locals stage n a b c some in
      let second = subst (λ k. Has (bit_or (nodes_at locals stage a) (bit_or (nodes_at locals stage b) k)) n) (sym three) third in
      let first = subst (λ k. Has (bit_or (nodes_at locals stage a) (bit_or k z)) n) (sym two) second in
      subst (λ k. Has (bit_or k (bit_or y z)) n) (sym one) first
