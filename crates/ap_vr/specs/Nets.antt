-- The nets of a module by numbers: its ports, wires and registers in the order of their lines, and then clk and rst.
use Rattle.std.specs.Prelude.{ℕ, List, [], ◌∷◌, ◌++◌, map, position, slice_get, if◌then◌else◌}
use Rattle.std.specs.Option.{option_map_or, unwrap_or}
use Rattle.std.specs.Str.{bytes_eq}
use Rattle.ap_net.specs.declared.net.Net.{Net}
use Rattle.ap_net.specs.declared.net.Port.{Port}
use Rattle.ap_net.specs.declared.net.Role.TheVariants as role
use Rattle.ap_vr.specs.declared.module.NamedModule.{NamedModule}
use Rattle.ap_vr.specs.declared.nets.NetForm.{NetForm}

abbrev pub port_form : Port → NetForm
port_form p = record { width = p.width; role = if p.output then role.Output else role.Input }

abbrev pub wire_form : Net → NetForm
wire_form n = record { width = n.width; role = role.Plain }

abbrev pub reg_form : Net → NetForm
reg_form n = record { width = n.width; role = role.Register 0 }

-- clk and rst
abbrev pub own_form : NetForm
own_form = record { width = 1; role = role.Input }

-- what the nets of a module are, by their numbers
abbrev pub net_forms : NamedModule → List NetForm
net_forms m = map port_form m.ports ++ map wire_form m.wires ++ map reg_form m.regs ++ own_form ∷ own_form ∷ []

-- what the net of a number is
abbrev pub form_at : List NetForm → ℕ → NetForm
form_at forms n = option_map_or (λ (f : NetForm). f) (slice_get forms n) own_form

-- the number of a name, which is 0 for one that isn't there
abbrev pub number_of : List (List ℕ) → List ℕ → ℕ
number_of names name = unwrap_or (position (bytes_eq name) names) 0

-- the width of the net of a name
abbrev pub width_of : List (List ℕ) → List NetForm → List ℕ → ℕ
width_of names forms name = (form_at forms (number_of names name)).width
