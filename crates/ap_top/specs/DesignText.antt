-- The text that is written for a form.
use Rattle.std.specs.Prelude.{◌≡◌, ℕ, List, [], ◌∷◌}
use Rattle.ap_bits.specs.Cards.{select_width}
use Rattle.ap_net.specs.Modules.{ModuleText, IsNetlist}
use Rattle.ap_net.specs.Text.{Spells}
use Rattle.ap_top.specs.declared.form.Form.{Form}
use Rattle.ap_top.specs.Additions.{Operation}
use Rattle.ap_top.specs.FormUnit.{IsFormUnit}
use Rattle.ap_top.specs.Processor.{IsDesign}

-- The text spells two modules: a unit that can do the operation, and the module top of the form's processor. Units can be
-- exchanged: with any other module that is a unit of the same ports, of whatever card, the same top is the processor whose adding
-- instruction does that card's operation of the same number.
pub record IsDesignText (operation : Operation) (form : Form) (text : List ℕ) : Type 0 where
  pub unit : ModuleText
  pub top : ModuleText
  pub spells : Spells (unit ∷ top ∷ []) text
  pub is_unit : IsFormUnit operation form.width (select_width operation.card) unit
  pub netlist : IsNetlist (unit ∷ top ∷ [])
  pub design : IsDesign operation form (unit ∷ top ∷ [])
  pub exchanged : (other : Operation) → other.number ≡ operation.number → (exchange : ModuleText) → IsFormUnit other form.width (select_width operation.card) exchange
      → IsNetlist (exchange ∷ top ∷ []) × IsDesign other form (exchange ∷ top ∷ [])
