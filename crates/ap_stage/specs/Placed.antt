-- An instance of a unit that takes one cycle, and what it answers.
use Rattle.std.specs.Prelude.{◌≡◌, ℕ, ◌<◌, List, [], ◌∷◌, length, Some}
use Rattle.ap_bits.specs.Cards.{operation_value}
use Rattle.ap_bits.specs.declared.card.Card.{Card}
use Rattle.ap_net.specs.declared.cell.Wire.{Wire}
use Rattle.ap_net.specs.declared.net.Instance.{Instance}
use Rattle.ap_net.specs.Draft.{Draft}
use Rattle.ap_net.specs.Modules.{Connects, ModuleText, module_named}
use Rattle.ap_net.specs.Placing.{Places}
use Rattle.ap_net.specs.Readings.{Reading}
use Rattle.ap_unit.specs.Units.{Computes}

-- In every netlist in which the module of this name computes by a card, y is the value of the card's operation that these nets choose.
abbrev pub Operates : List ℕ → ℕ → Wire → Wire → Wire → Reading → ℕ → Type 0
Operates name width sel a b r y = (m : ModuleText) (card : Card) → module_named r.modules name ≡ Some m → Computes m card width
    → r.read sel.number < length card.ops → y ≡ operation_value card width (r.read sel.number) (r.read a.number) (r.read b.number)

-- One instance was placed, of this name and of this unit, over these nets.
pub record PlacesUnit (name : List ℕ) (unit : ModuleText) (nets : List Wire) (old new : Draft) : Type 0 where
  pub placed : Instance
  pub named : placed.name ≡ name
  pub connects : Connects unit placed
  pub over : placed.nets ≡ nets
  pub places : Places (placed ∷ []) old new
