-- The text of a unit by itself, and which kind a name asks for.
use Rattle.std.specs.Prelude.{◌≡◌, ℕ, List, [], ◌∷◌, slice_get, Some, IsSomeAnd}
use Rattle.ap_bits.specs.declared.card.Card.{Card}
use Rattle.ap_bits.specs.Cards.{FitsWidth}
use Rattle.ap_net.specs.Modules.{ModuleText, IsNetlist}
use Rattle.ap_net.specs.Text.{Spells}
use Rattle.ap_unit.specs.Kinds.{place_of}
use Rattle.ap_unit.specs.Units.{IsUnit}

-- the text spells one module, top, which is a unit of the card at w bits
pub record IsUnitText (card : Card) (w : ℕ) (text : List ℕ) : Type 0 where
  pub top : ModuleText
  pub netlist : IsNetlist (top ∷ [])
  pub unit : IsUnit top card w
  pub spells : Spells (top ∷ []) text

-- the name asks for the kind with this card: it is the first of this name among the cards of the shelf
abbrev pub IsKindNamed : List Card → List ℕ → Card → Type 0
IsKindNamed cards name card = IsSomeAnd (place_of name cards) (λ place. slice_get cards place ≡ Some card)

-- the text is that of a unit of w bits of the kind that the name asks for
pub record IsTextFor (cards : List Card) (name : List ℕ) (w : ℕ) (text : List ℕ) : Type 0 where
  pub card : Card
  pub named : IsKindNamed cards name card
  pub fits : FitsWidth card w
  pub spelled : IsUnitText card w text
