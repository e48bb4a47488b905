-- Designs over the cards of a shelf: a unit's kind is the place of its card.
use Rattle.std.specs.Prelude.{◌≡◌, ◌<◌, List, length, slice_get, IsSomeAnd}
use Rattle.std.specs.List.{AllByRecursion as Each}
use Rattle.ap_bits.specs.Cards.{FitsWidth, latency_at}
use Rattle.ap_bits.specs.declared.card.Card.{Card}
use Rattle.ap_desc.specs.declared.design.Design.{Design}
use Rattle.ap_desc.specs.declared.design.Unit.{Unit as Resource}
use Rattle.ap_desc.specs.declared.design.Instr.{Instr}
use Rattle.ap_desc.specs.declared.design.Micro.{Micro}
use Rattle.ap_desc.specs.declared.design.Act.{Act}
use Rattle.ap_desc.specs.declared.design.Act.TheVariants as act

-- the unit's kind has a card, which allows the unit's width and gives its latency
abbrev pub IsOfCard : List Card → Resource → Type 0
IsOfCard cards unit = IsSomeAnd (slice_get cards unit.kind) (λ card. FitsWidth card unit.width × (unit.latency ≡ latency_at card unit.width))

-- the operation's number is one of the card of the unit
abbrev pub HasOperation : List Card → Design → Act → Type 0
HasOperation cards design (act.Compute unit op a b) = IsSomeAnd (slice_get design.units unit) (λ u. IsSomeAnd (slice_get cards u.kind) (λ card. op < length card.ops))
HasOperation cards design _ = Unit {0}

-- the design's units are of these cards: their kinds, widths and latencies, and the operations that the lines name
pub record IsOfCards (design : Design) (cards : List Card) : Type 0 where
  pub units : Each (IsOfCard cards) design.units
  pub operations : Each (λ (i : Instr). Each (λ (m : Micro). HasOperation cards design m.act) i.micros) design.instrs
