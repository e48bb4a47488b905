-- Numbers of ports below 153; those of nodes are the lowest.
use Rattle.std.specs.Prelude.{ℕ, ◌+◌, ◌*◌, ◌<◌, Option, Some, None}
use Rattle.ap_desc.specs.declared.design.Act.{Act}
use Rattle.ap_desc.specs.declared.design.Act.TheVariants as act
use Rattle.ap_desc.specs.declared.design.Node.{Node}
use Rattle.ap_desc.specs.declared.design.Node.TheVariants as node

-- the number of the node
abbrev pub number_of_node : Node → ℕ
number_of_node (node.Unit unit) = unit
number_of_node (node.FileRead file port) = 32 + 4 * file + port
number_of_node (node.MemRead mem) = 64 + mem

-- the node's part and port are below what a design has at most, so that the numbers of two nodes differ
abbrev pub IsNumberedNode : Node → Type 0
IsNumberedNode (node.Unit unit) = unit < 32
IsNumberedNode (node.FileRead file port) = (file < 8) × (port < 4)
IsNumberedNode (node.MemRead mem) = mem < 4

-- the number of the port that a line uses
abbrev pub port_number : Act → Option ℕ
port_number (act.Compute unit op a b) = Some unit
port_number (act.ReadFile file port index) = Some (32 + 4 * file + port)
port_number (act.ReadMem mem at) = Some (64 + mem)
port_number (act.WriteFile file port index value guard) = Some (68 + 2 * file + port)
port_number (act.WriteReg reg value guard) = Some (84 + reg)
port_number (act.WriteMem mem at value guard) = Some (148 + mem)
port_number (act.Branch cond target) = Some 152
port_number (act.Jump target) = Some 152
port_number _ = None

-- the number of the node that a line uses
abbrev pub node_number : Act → Option ℕ
node_number (act.Compute unit op a b) = Some unit
node_number (act.ReadFile file port index) = Some (32 + 4 * file + port)
node_number (act.ReadMem mem at) = Some (64 + mem)
node_number _ = None

-- the line's part and port are below what a design has at most, so that the numbers of two ports differ
abbrev pub IsNumbered : Act → Type 0
IsNumbered (act.Compute unit op a b) = unit < 32
IsNumbered (act.ReadFile file port index) = (file < 8) × (port < 4)
IsNumbered (act.ReadMem mem at) = mem < 4
IsNumbered (act.WriteFile file port index value guard) = (file < 8) × (port < 2)
IsNumbered (act.WriteReg reg value guard) = reg < 64
IsNumbered (act.WriteMem mem at value guard) = mem < 4
IsNumbered _ = Unit {0}
