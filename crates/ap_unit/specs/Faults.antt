-- Why kinds make no shelf.
use Rattle.std.specs.Prelude.{ℕ, ◌<◌, List}
use Rattle.ap_bits.specs.declared.card.Card.{Card}
use Rattle.ap_unit.specs.Kinds.{names_of, StoodEarlier}
use Rattle.ap_unit.specs.declared.shelf.ShelfFault.{ShelfFault}
use Rattle.ap_unit.specs.declared.shelf.ShelfFault.TheVariants.{TwiceNamed}

-- the fault names the least place whose name stood earlier
abbrev pub IsLeastTwice : List Card → ShelfFault → Type 0
IsLeastTwice cards (TwiceNamed place) = StoodEarlier (names_of cards) place × ((j : ℕ) → j < place → StoodEarlier (names_of cards) j → ⊥)
