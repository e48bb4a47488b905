-- The pieces of which units that take one cycle are built: the inputs, fresh wires over them, and the output.
use Rattle.std.specs.Prelude.{◌≡◌, ℕ, ◌<◌, List, [], ◌∷◌, length, codes}
use Rattle.ap_bits.specs.declared.card.Card.{Card}
use Rattle.ap_net.specs.declared.cell.Wire.{Wire}
use Rattle.ap_net.specs.declared.net.Role.TheVariants as role
use Rattle.ap_net.specs.declared.net.ModuleNet.{ModuleNet}
use Rattle.ap_net.specs.Draft.{Draft, SettlesDraft}
use Rattle.ap_unit.specs.declared.pieces.Inputs.{Inputs}
use Rattle.ap_bits.specs.Cards.{operation_value}

abbrev pub input_net : List ℕ → ℕ → ModuleNet
input_net name width = record { name = name; width = width; role = role.Input }

abbrev pub output_net : List ℕ → ℕ → ModuleNet
output_net name width = record { name = name; width = width; role = role.Output }

-- a draft with the inputs sel of s bits, and a and b of w bits, and nothing else
abbrev pub with_inputs : List ℕ → ℕ → ℕ → Draft
with_inputs name s w = record { name = name; nets = input_net (codes "sel") s ∷ input_net (codes "a") w ∷ input_net (codes "b") w ∷ []; assigns = []; nexts = []; instances = [] }

-- the wires of these inputs
abbrev pub input_wires : ℕ → ℕ → Inputs
input_wires s w = record { sel = record { number = 0; width = s }; a = record { number = 1; width = w }; b = record { number = 2; width = w } }

-- in every solution the net has the value of the operation that sel chooses, for the operands a and b
abbrev pub HasValue : Draft → Inputs → Wire → Card → Type 0
HasValue d inputs y card = (read : ℕ → ℕ) → SettlesDraft d read → read inputs.sel.number < length card.ops
    → read y.number ≡ operation_value card inputs.a.width (read inputs.sel.number) (read inputs.a.number) (read inputs.b.number)
