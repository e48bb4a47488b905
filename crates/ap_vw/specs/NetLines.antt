-- The lines of a netlist's text, each with its line feed, and what is left of them.
use Rattle.std.specs.Prelude.{ℕ, List, [], ◌∷◌, ◌++◌, map, codes, if◌then◌else◌, Bool, true, false}
use Rattle.std.specs.List.{flat_map}
use Rattle.ap_net.specs.declared.net.ModuleNet.{ModuleNet}
use Rattle.ap_net.specs.declared.net.Net.{Net}
use Rattle.ap_net.specs.declared.net.Port.{Port}
use Rattle.ap_net.specs.declared.net.RegNet.{RegNet}
use Rattle.ap_net.specs.declared.net.Assign.{Assign}
use Rattle.ap_net.specs.declared.net.Next.{Next}
use Rattle.ap_net.specs.declared.net.Instance.{Instance}
use Rattle.ap_net.specs.Modules.{ModuleText, earlier, nets_of, reset_at}
use Rattle.ap_net.specs.Text.{always_line, assign_line, constant_text, instance_line, range_text, reg_line, taken_text, wire_line, wire_name}

-- a port's line, with a comma where another one follows
abbrev pub port_line : Port → Bool → List ℕ
port_line p more = (if p.output then codes "  output " else codes "  input ") ++ range_text p.width ++ codes " " ++ p.name ++ (if more then codes ",\n" else codes "\n")

abbrev pub port_lines : List Port → List (List ℕ)
port_lines [] = []
port_lines (p ∷ []) = port_line p false ∷ []
port_lines (p ∷ q ∷ ports) = port_line p true ∷ port_lines (q ∷ ports)

-- what a register takes at the reset edge, and at any other
abbrev pub reset_text : List ModuleNet → Next → List ℕ
reset_text nets x = taken_text (wire_name nets x.register) (constant_text x.register.width (reset_at nets x.register.number))

abbrev pub edge_text : List ModuleNet → Next → List ℕ
edge_text nets x = taken_text (wire_name nets x.register) (wire_name nets x.from)

-- the lines of a module after its ports, those of each kind in order
abbrev pub body_lines : List ModuleText → ModuleText → List Net → List RegNet → List Assign → List Next → List Instance → List (List ℕ)
body_lines modules m wires regs assigns nexts instances =
    map wire_line wires ++ map reg_line regs ++ map (assign_line (nets_of m)) assigns ++ map (always_line (nets_of m)) nexts
    ++ map (instance_line modules (nets_of m)) instances ++ codes "endmodule\n" ∷ []

abbrev pub head_lines : ModuleText → List (List ℕ)
head_lines m = (codes "module " ++ m.name ++ codes " (\n") ∷ codes "  input clk,\n" ∷ codes "  input rst,\n" ∷ []

-- the lines of a module, whose instances are of these other modules
abbrev pub module_lines : List ModuleText → ModuleText → List (List ℕ)
module_lines modules m = head_lines m ++ port_lines m.ports ++ codes ");\n" ∷ body_lines modules m m.wires m.regs m.assigns m.nexts m.instances

abbrev pub lines_of : List ModuleText → List ModuleText → List (List ℕ)
lines_of modules [] = []
lines_of modules (m ∷ more) = module_lines modules m ++ lines_of modules more

-- the lines of a netlist
abbrev pub netlist_lines : List ModuleText → List (List ℕ)
netlist_lines modules = lines_of (earlier modules) modules

-- the text that lines are
abbrev pub text_of : List (List ℕ) → List ℕ
text_of lines = flat_map (λ line. line) lines
