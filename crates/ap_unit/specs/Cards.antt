-- What the card of every kind of unit keeps.
use Rattle.std.specs.Prelude.{◌≤◌, length}
use Rattle.std.specs.List.{AllByRecursion as Each}
use Rattle.ap_bits.specs.declared.card.Card.{Card}
use Rattle.ap_bits.specs.Names.{IsName}
use Rattle.ap_bits.specs.Cards.{operation_names}
use Rattle.ap_net.specs.Names.{AreDistinct}

-- the card has from 1 to 64 operations; they and the kind are named as descriptions name things, and no two operations alike
pub record IsKindCard (card : Card) : Type 0 where
  pub name : IsName card.name
  pub some : 1 ≤ length card.ops
  pub few : length card.ops ≤ 64
  pub operations : Each IsName (operation_names card)
  pub distinct : AreDistinct (operation_names card)
