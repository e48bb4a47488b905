-- Kinds by their names, as the cards of a list tell them.
use Rattle.std.specs.Prelude.{ℕ, List, map, Option, slice_get, take, Contains, IsSomeAnd}
use Rattle.std.specs.List.{position_from}
use Rattle.std.specs.Str.{bytes_eq}
use Rattle.ap_bits.specs.declared.card.Card.{Card}
use Rattle.ap_net.specs.Names.{AreDistinct}

-- the first place of the name, or none
abbrev pub place_of : List ℕ → List Card → Option ℕ
place_of name cards = position_from (λ card. bytes_eq card.name name) 0 cards

-- the names of the kinds
abbrev pub names_of : List Card → List (List ℕ)
names_of cards = map (λ card. card.name) cards

-- each name stands once
abbrev pub KindsDiffer : List Card → Type 0
KindsDiffer cards = AreDistinct (names_of cards)

-- the name at place i stood earlier
abbrev pub StoodEarlier : List (List ℕ) → ℕ → Type 0
StoodEarlier names i = IsSomeAnd (slice_get names i) (Contains (take i names))
