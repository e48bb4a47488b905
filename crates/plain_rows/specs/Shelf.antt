-- The shelf of the program.
use Rattle.std.specs.Prelude.{List, [], ◌∷◌}
use Rattle.ap_bits.specs.declared.card.Card.{Card}
use Rattle.ap_bits.specs.KindCards.{alu_card, shift_card, count_card, avg_card, mul_card, div_card}

-- the cards of the kinds of units that the program knows, in order
abbrev pub known_cards : List Card
known_cards = alu_card ∷ shift_card ∷ count_card ∷ avg_card ∷ mul_card ∷ div_card ∷ []
