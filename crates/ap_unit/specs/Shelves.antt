-- The cards of a shelf.
use Rattle.std.specs.Prelude.{List, map}
use Rattle.std.specs.declared.alloc.Global.{Global}
use Rattle.std.specs.declared.dyn_box.DynBox.{DynBox}
use Rattle.ap_bits.specs.declared.card.Card.{Card}
use Rattle.ap_unit.specs.declared.shelf.Shelf.{Shelf}

-- The cards of a shelf's kinds in order, by what gives the card of a kind behind a reference. A clause writes `cards_of card shelf.now`.
abbrev pub cards_of : {V : Type 0} {X : V → Type 0} → ((v : V) × X v → Card) → Shelf V X → List Card
cards_of card s = map (λ b. card (b.vtable, b.value)) s.kinds.items

-- The same by what gives the card of a boxed kind, for functions that have boxes among their arguments: there `card` means that.
abbrev pub boxed_cards_of : {V : Type 0} {X : V → Type 0} → (DynBox V Global X → Card) → Shelf V X → List Card
boxed_cards_of card s = map card s.kinds.items
