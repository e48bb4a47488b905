-- How each line of a netlist's text is spelled, by the names that stand in it. A line ends with its line feed. Which lines there
-- are, and that each has one spelling, are the project's own rules.
use Rattle.std.specs.Prelude.{◌≡◌, ◌≢◌, ℕ, ◌≤◌, ◌<◌, ◌^◌, Bool, if◌then◌else◌, List, ◌++◌, codes}
use Rattle.std.specs.Fmt.{decimal}
use Rattle.std.specs.List.{flat_map, AllByRecursion as Each}
use Rattle.ap_net.specs.declared.net.Net.{Net}
use Rattle.ap_net.specs.declared.net.Port.{Port}
use Rattle.ap_net.specs.Names.{IsNetName}
use Rattle.ap_net.specs.Text.{range_text, constant_text, wire_line, sign, taken_text, clocked_text}
use Rattle.ap_vr.specs.declared.line.Right.{Right}
use Rattle.ap_vr.specs.declared.line.Right.TheVariants as right
use Rattle.ap_vr.specs.declared.line.NamedAssign.{NamedAssign}
use Rattle.ap_vr.specs.declared.line.NamedNext.{NamedNext}
use Rattle.ap_vr.specs.declared.line.Connection.{Connection}
use Rattle.ap_vr.specs.declared.line.NamedInstance.{NamedInstance}
use Rattle.ap_vr.specs.declared.line.Line.{Line}
use Rattle.ap_vr.specs.declared.line.Line.TheVariants as line

-- a port with its direction and its bits, and a comma where another one follows
abbrev pub port_line : Port → Bool → List ℕ
port_line p more = (if p.output then codes "  output " else codes "  input ") ++ range_text p.width ++ codes " " ++ p.name ++ (if more then codes ",\n" else codes "\n")

abbrev pub register_line : Net → List ℕ
register_line n = codes "  reg " ++ range_text n.width ++ codes " " ++ n.name ++ codes ";\n"

-- the right side of an assign
abbrev pub right_text : Right → List ℕ
right_text (right.Const width value) = constant_text width value
right_text (right.Copy a) = a
right_text (right.Not a) = codes "~" ++ a
right_text (right.Two o a b) = a ++ sign o ++ b
right_text (right.Choose s a b) = s ++ codes " ? " ++ a ++ codes " : " ++ b
right_text (right.Cat a b) = codes "{" ++ a ++ codes ", " ++ b ++ codes "}"
right_text (right.Slice a h l) = a ++ codes "[" ++ decimal h ++ codes ":" ++ decimal l ++ codes "]"

abbrev pub named_assign_line : NamedAssign → List ℕ
named_assign_line a = codes "  assign " ++ a.to ++ codes " = " ++ right_text a.right ++ codes ";\n"

abbrev pub named_always_line : NamedNext → List ℕ
named_always_line x = clocked_text (taken_text x.register (constant_text x.width x.reset)) (taken_text x.register x.from)

-- the connections after those of clk and rst
abbrev pub joined_text : Connection → List ℕ
joined_text c = codes ", ." ++ c.port ++ codes "(" ++ c.net ++ codes ")"

abbrev pub named_instance_line : NamedInstance → List ℕ
named_instance_line i = codes "  " ++ i.module ++ codes " " ++ i.name ++ codes " (.clk(clk), .rst(rst)" ++ flat_map joined_text i.connections ++ codes ");\n"

-- a line
abbrev pub line_text : Line → List ℕ
line_text (line.Module name) = codes "module " ++ name ++ codes " (\n"
line_text line.Clock = codes "  input clk,\n"
line_text line.Reset = codes "  input rst,\n"
line_text (line.Port p more) = port_line p more
line_text line.Close = codes ");\n"
line_text (line.Wire n) = wire_line n
line_text (line.Reg n) = register_line n
line_text (line.Assign a) = named_assign_line a
line_text (line.Always x) = named_always_line x
line_text (line.Instance i) = named_instance_line i
line_text line.End = codes "endmodule\n"

-- widths are from 1 to 64
abbrev pub IsWidth : ℕ → Type 0
IsWidth width = (1 ≤ width) × (width ≤ 64)

-- what may be read, and what may be connected: never clk or rst
abbrev pub IsOperand : List ℕ → Type 0
IsOperand name = IsNetName name × (name ≢ codes "clk") × (name ≢ codes "rst")

-- the names and numbers of a right side are such as a line may have
abbrev pub IsRight : Right → Type 0
IsRight (right.Const width value) = IsWidth width × (value < 2 ^ 64)
IsRight (right.Copy a) = IsOperand a
IsRight (right.Not a) = IsOperand a
IsRight (right.Two o a b) = IsOperand a × IsOperand b
IsRight (right.Choose s a b) = IsOperand s × IsOperand a × IsOperand b
IsRight (right.Cat a b) = IsOperand a × IsOperand b
IsRight (right.Slice a h l) = IsOperand a × (h < 2 ^ 64) × (l < 2 ^ 64)

abbrev pub IsAssign : NamedAssign → Type 0
IsAssign a = IsNetName a.to × IsRight a.right

abbrev pub IsNext : NamedNext → Type 0
IsNext x = IsNetName x.register × IsWidth x.width × (x.reset < 2 ^ 64) × IsOperand x.from

abbrev pub IsConnection : Connection → Type 0
IsConnection c = IsNetName c.port × IsOperand c.net

abbrev pub IsInstance : NamedInstance → Type 0
IsInstance i = IsNetName i.name × IsNetName i.module × Each IsConnection i.connections

abbrev pub IsPort : Port → Type 0
IsPort p = IsNetName p.name × IsWidth p.width

abbrev pub IsDeclared : Net → Type 0
IsDeclared n = IsNetName n.name × IsWidth n.width

-- and so of any line
abbrev pub IsLine : Line → Type 0
IsLine (line.Module name) = IsNetName name
IsLine line.Clock = Unit {0}
IsLine line.Reset = Unit {0}
IsLine (line.Port p more) = IsPort p
IsLine line.Close = Unit {0}
IsLine (line.Wire n) = IsDeclared n
IsLine (line.Reg n) = IsDeclared n
IsLine (line.Assign a) = IsAssign a
IsLine (line.Always x) = IsNext x
IsLine (line.Instance i) = IsInstance i
IsLine line.End = Unit {0}

-- the bytes are this line
abbrev pub IsSpelled : List ℕ → Line → Type 0
IsSpelled bytes x = IsLine x × (bytes ≡ line_text x)
