-- The card of the kind of which the tests make shelves.
use Rattle.std.specs.Prelude.{ℕ, ◌+◌, ◌-◌, ◌%◌, ◌^◌, ◌==◌, if◌then◌else◌, [], ◌∷◌, codes}
use Rattle.ap_bits.specs.declared.term.BinOp.TheVariants.{Add, Sub}
use Rattle.ap_bits.specs.declared.term.Term.{Bin, A, B}
use Rattle.ap_bits.specs.declared.card.OpCard.{OpCard}
use Rattle.ap_bits.specs.declared.card.Card.{Card}
use Rattle.ap_bits.specs.declared.card.Widths.TheVariants.{Any}
use Rattle.ap_bits.specs.declared.card.Latency.TheVariants.{One}

abbrev pub sub_op : OpCard
sub_op = record { name = codes "sub"; term = Bin Sub A B }

abbrev pub add_op : OpCard
add_op = record { name = codes "add"; term = Bin Add A B }

-- the first operand less the second, and then their sum
abbrev pub less_and_sum_card : Card
less_and_sum_card = record { name = codes "alu"; ops = sub_op ∷ add_op ∷ []; widths = Any; latency = One }

-- what its operation of a number gives
abbrev pub sum_or_less_value : ℕ → ℕ → ℕ → ℕ → ℕ
sum_or_less_value w n a b = if n == 1 then (a + b) % 2 ^ w else (a + 2 ^ w - b) % 2 ^ w
