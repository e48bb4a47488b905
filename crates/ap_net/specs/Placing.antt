-- How an instance is placed over ready nets: a fresh wire is made for each output, and the ports are connected in order.
use Rattle.std.specs.Prelude.{◌≡◌, ℕ, ◌+◌, List, [], ◌∷◌, ◌++◌, length, map, Bool, true, false, if◌then◌else◌}
use Rattle.ap_net.specs.declared.cell.Wire.{Wire}
use Rattle.ap_net.specs.declared.net.Role.TheVariants as role
use Rattle.ap_net.specs.declared.net.ModuleNet.{ModuleNet}
use Rattle.ap_net.specs.declared.net.Port.{Port}
use Rattle.ap_net.specs.declared.net.Instance.{Instance}
use Rattle.ap_net.specs.Names.{IsNew, IsNotNumbered, numbered}
use Rattle.ap_net.specs.Modules.{ModuleText, ports_among, outputs, instance_of}
use Rattle.ap_net.specs.Draft.{Draft, Adds, CanFresh, names_of, wire_count}
use Rattle.ap_net.specs.Making.{Closes}

-- the widths of the outputs among ports, and of the inputs
abbrev pub output_widths : List Port → List ℕ
output_widths [] = []
output_widths (p ∷ ports) = if p.output then p.width ∷ output_widths ports else output_widths ports

abbrev pub input_widths : List Port → List ℕ
input_widths [] = []
input_widths (p ∷ ports) = if p.output then input_widths ports else p.width ∷ input_widths ports

-- nets of these widths, numbered from n on
abbrev pub wires_from : ℕ → List ℕ → List Wire
wires_from n [] = []
wires_from n (width ∷ widths) = record { number = n; width = width } ∷ wires_from (n + 1) widths

-- fresh wires of these widths, where count wires were declared before
abbrev pub fresh_nets : ℕ → List ℕ → List ModuleNet
fresh_nets count [] = []
fresh_nets count (width ∷ widths) = record { name = numbered count; width = width; role = role.Plain } ∷ fresh_nets (count + 1) widths

-- the draft with a fresh wire for each output among ports
abbrev pub with_outputs : Draft → List Port → Draft
with_outputs d ports = record d { nets = d.nets ++ fresh_nets (wire_count d.nets) (output_widths ports) }

-- one net for each port: the next output where the port is one, else the next input
abbrev pub merged : List Bool → List Wire → List Wire → List Wire
merged [] inputs outs = []
merged (true ∷ drives) inputs [] = []
merged (true ∷ drives) inputs (w ∷ outs) = w ∷ merged drives inputs outs
merged (false ∷ drives) [] outs = []
merged (false ∷ drives) (w ∷ inputs) outs = w ∷ merged drives inputs outs

-- the wires that are made for the outputs of a module, where so many nets were declared before
abbrev pub output_wires : ℕ → ModuleText → List Wire
output_wires n m = wires_from n (output_widths m.ports)

-- the instance of a module over these inputs
abbrev pub placed_instance : ℕ → List ℕ → ModuleText → List Wire → Instance
placed_instance n name m inputs = instance_of name m (merged (outputs m) inputs (output_wires n m))

-- the instance in a draft
abbrev pub instance_in : Draft → List ℕ → ModuleText → List Wire → Instance
instance_in d name m inputs = placed_instance (length d.nets) name m inputs

-- the draft with it
abbrev pub with_placed : Draft → List ℕ → ModuleText → List Wire → Draft
with_placed d name m inputs = record d {
  nets = d.nets ++ fresh_nets (wire_count d.nets) (output_widths m.ports);
  instances = d.instances ++ placed_instance (length d.nets) name m inputs ∷ [];
}

-- Fresh wires were made and these instances placed over ready nets: what came is driven, further fresh wires can be had, a name
-- that isn't n and a number and none of the instances' is as new as it was, and the ports are as they were.
pub record Places (placed : List Instance) (old new : Draft) : Type 0 where
  pub adds : Adds old new
  pub instances : new.instances ≡ old.instances ++ placed
  pub closes : Closes old new
  pub fresh : CanFresh old → CanFresh new
  pub names : (name : List ℕ) → IsNotNumbered name → IsNew name (map (λ (i : Instance). i.name) placed) → IsNew name (names_of old) → IsNew name (names_of new)
  pub ports : ports_among new.nets ≡ ports_among old.nets
