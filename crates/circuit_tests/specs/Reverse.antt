-- The card of the smallest kind, which the tests and the documents have as their example.
use Rattle.std.specs.Prelude.{[], ◌∷◌, codes}
use Rattle.ap_bits.specs.declared.term.BinOp.TheVariants.{Sub}
use Rattle.ap_bits.specs.declared.term.Term.{Bin, A, B}
use Rattle.ap_bits.specs.declared.card.Card.{Card}
use Rattle.ap_bits.specs.declared.card.Widths.TheVariants.{Any}
use Rattle.ap_bits.specs.declared.card.Latency.TheVariants.{One}

-- the second operand less the first
abbrev pub reverse_card : Card
reverse_card = record { name = codes "reverse"; ops = record { name = codes "rsub"; term = Bin Sub B A } ∷ []; widths = Any; latency = One }
