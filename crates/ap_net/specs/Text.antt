-- The one spelling of a netlist: modules, one after another, line by line.
use Rattle.std.specs.Prelude.{◌≡◌, ℕ, ◌-◌, List, [], ◌∷◌, ◌++◌, Option, Some, None, codes, if◌then◌else◌}
use Rattle.std.specs.List.{flat_map}
use Rattle.std.specs.Fmt.{decimal}
use Rattle.ap_net.specs.declared.cell.Wire.{Wire}
use Rattle.ap_net.specs.declared.cell.TwoOp.{TwoOp}
use Rattle.ap_net.specs.declared.cell.TwoOp.TheVariants as op
use Rattle.ap_net.specs.declared.cell.Cell.{Cell}
use Rattle.ap_net.specs.declared.cell.Cell.TheVariants as cell
use Rattle.ap_net.specs.declared.net.ModuleNet.{ModuleNet}
use Rattle.ap_net.specs.declared.net.Port.{Port}
use Rattle.ap_net.specs.declared.net.Net.{Net}
use Rattle.ap_net.specs.declared.net.RegNet.{RegNet}
use Rattle.ap_net.specs.declared.net.Assign.{Assign}
use Rattle.ap_net.specs.declared.net.Next.{Next}
use Rattle.ap_net.specs.declared.net.Instance.{Instance}
use Rattle.ap_net.specs.Modules.{ModuleText, nets_of, name_at, reset_at, module_named, earlier}

-- the bits of a net, highest first: [7:0]
abbrev pub range_text : ℕ → List ℕ
range_text width = codes "[" ++ decimal (width - 1) ++ codes ":0]"

-- a constant of some bits: 8'd5
abbrev pub constant_text : ℕ → ℕ → List ℕ
constant_text width value = decimal width ++ codes "'d" ++ decimal value

-- a port stands on a line of its own, after the comma of the line before
abbrev pub port_text : Port → List ℕ
port_text p = (if p.output then codes ",\n  output " else codes ",\n  input ") ++ range_text p.width ++ codes " " ++ p.name

abbrev pub wire_line : Net → List ℕ
wire_line n = codes "  wire " ++ range_text n.width ++ codes " " ++ n.name ++ codes ";\n"

abbrev pub reg_line : RegNet → List ℕ
reg_line r = codes "  reg " ++ range_text r.width ++ codes " " ++ r.name ++ codes ";\n"

abbrev pub sign : TwoOp → List ℕ
sign op.Add = codes " + "
sign op.Sub = codes " - "
sign op.And = codes " & "
sign op.Or = codes " | "
sign op.Xor = codes " ^ "
sign op.Eq = codes " == "
sign op.Ltu = codes " < "

abbrev pub wire_name : List ModuleNet → Wire → List ℕ
wire_name nets w = name_at nets w.number

-- the right side of an assign whose result has some bits
abbrev pub cell_text : List ModuleNet → ℕ → Cell → List ℕ
cell_text nets width (cell.Const value) = constant_text width value
cell_text nets width (cell.Copy a) = wire_name nets a
cell_text nets width (cell.Not a) = codes "~" ++ wire_name nets a
cell_text nets width (cell.Two o a b) = wire_name nets a ++ sign o ++ wire_name nets b
cell_text nets width (cell.Choose s a b) = wire_name nets s ++ codes " ? " ++ wire_name nets a ++ codes " : " ++ wire_name nets b
cell_text nets width (cell.Cat a b) = codes "{" ++ wire_name nets a ++ codes ", " ++ wire_name nets b ++ codes "}"
cell_text nets width (cell.Slice a h l) = wire_name nets a ++ codes "[" ++ decimal h ++ codes ":" ++ decimal l ++ codes "]"

abbrev pub assign_line : List ModuleNet → Assign → List ℕ
assign_line nets a = codes "  assign " ++ wire_name nets a.to ++ codes " = " ++ cell_text nets a.to.width a.cell ++ codes ";\n"

-- what a register takes
abbrev pub taken_text : List ℕ → List ℕ → List ℕ
taken_text register value = register ++ codes " <= " ++ value ++ codes ";"

-- the line of a register, by what it takes at the reset edge and at any other
unfoldable pub clocked_text : List ℕ → List ℕ → List ℕ
clocked_text at_reset at_edge = codes "  always @(posedge clk) if (rst) " ++ at_reset ++ codes " else " ++ at_edge ++ codes "\n"

unfoldable pub always_line : List ModuleNet → Next → List ℕ
always_line nets x = clocked_text (taken_text (wire_name nets x.register) (constant_text x.register.width (reset_at nets x.register.number)))
    (taken_text (wire_name nets x.register) (wire_name nets x.from))

-- the ports of an instance's module
abbrev pub ports_in : Option ModuleText → List Port
ports_in None = []
ports_in (Some m) = m.ports

-- the ports of an instance after clk and rst, each with the net that it is connected to
abbrev pub connection_text : Port → List ℕ → List ℕ
connection_text port net = codes ", ." ++ port.name ++ codes "(" ++ net ++ codes ")"

abbrev pub connections_text : List ModuleNet → List Port → List Wire → List ℕ
connections_text nets [] wires = []
connections_text nets (port ∷ ports) [] = []
connections_text nets (port ∷ ports) (w ∷ wires) = connection_text port (wire_name nets w) ++ connections_text nets ports wires

abbrev pub instance_line : List ModuleText → List ModuleNet → Instance → List ℕ
instance_line modules nets i = codes "  " ++ i.module ++ codes " " ++ i.name ++ codes " (.clk(clk), .rst(rst)" ++ connections_text nets (ports_in (module_named modules i.module)) i.nets ++ codes ");\n"

-- a module: its head with the ports, its wires, its registers, its assigns, what its registers take, its instances of earlier
-- modules
abbrev pub module_head : ModuleText → List ℕ
module_head m = codes "module " ++ m.name ++ codes " (\n  input clk,\n  input rst" ++ flat_map port_text m.ports ++ codes "\n);\n"

abbrev pub module_text : List ModuleText → ModuleText → List ℕ
module_text modules m = module_head m ++ flat_map wire_line m.wires ++ flat_map reg_line m.regs ++ flat_map (assign_line (nets_of m)) m.assigns
    ++ flat_map (always_line (nets_of m)) m.nexts ++ flat_map (instance_line modules (nets_of m)) m.instances ++ codes "endmodule\n"

-- a netlist: its modules, one after another
abbrev pub netlist_text : List ModuleText → List ℕ
netlist_text modules = flat_map (module_text (earlier modules)) modules

-- the text spells the netlist: one netlist has one text
abbrev pub Spells : List ModuleText → List ℕ → Type 0
Spells modules text = text ≡ netlist_text modules

-- some front of the text was appended
abbrev pub AppendsFront : List ℕ → List ℕ → List ℕ → Type 0
AppendsFront text old new = (done : List ℕ) × (rest : List ℕ) × (text ≡ done ++ rest) × (new ≡ old ++ done)
