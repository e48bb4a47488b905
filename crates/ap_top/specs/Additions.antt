-- The operation by which a unit adds: where a shelf has it, and what its card says that it gives.
use Rattle.std.specs.Prelude.{◌≡◌, ℕ, ◌<◌, List, codes, length, slice_get, Some}
use Rattle.ap_bits.specs.declared.card.Card.{Card}
use Rattle.ap_bits.specs.declared.card.Latency.TheVariants.{One}
use Rattle.ap_bits.specs.Cards.{FitsWidth, operation_names, operation_value}
use Rattle.ap_unit.specs.Kinds.{place_of}

-- an operation of a kind of unit: the kind's card, and the operation's number
pub record Operation : Type 0 where
  pub card : Card
  pub number : ℕ

-- what the operation gives, at w bits
abbrev pub result_of : Operation → ℕ → ℕ → ℕ → ℕ
result_of operation w a b = operation_value operation.card w operation.number a b

-- a unit of w bits can do the operation in one cycle
pub record IsQuick (operation : Operation) (w : ℕ) : Type 0 where
  pub fits : FitsWidth operation.card w
  pub one : operation.card.latency ≡ One
  pub has : operation.number < length operation.card.ops

-- the operation is `add` of the shelf's kind `alu`, which a unit of w bits can do in one cycle
pub record IsAddition (cards : List Card) (w : ℕ) (operation : Operation) : Type 0 where
  pub place : ℕ
  pub named : place_of (codes "alu") cards ≡ Some place
  pub card : slice_get cards place ≡ Some operation.card
  pub quick : IsQuick operation w
  pub adds : slice_get (operation_names operation.card) operation.number ≡ Some (codes "add")
