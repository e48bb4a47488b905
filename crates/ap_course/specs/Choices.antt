-- What is selected for a port of a stage: the choices of a design go over the instructions that use it.
use Rattle.std.specs.Prelude.{◌≡◌, ℕ, ◌^◌, ◌≤◌, List, Some, length, slice_get}
use Rattle.std.specs.List.{AllByRecursion as Each}
use Rattle.ap_bits.specs.declared.card.Card.{Card}
use Rattle.ap_desc.specs.Chains.{IsNodeOf}
use Rattle.ap_desc.specs.Clean.{FitsCards}
use Rattle.ap_desc.specs.Designs.{index_bits}
use Rattle.ap_desc.specs.Ports.{Port, file_read, mem_read, unit}
use Rattle.ap_desc.specs.declared.design.Design.{Design}
use Rattle.ap_desc.specs.declared.design.File.{File}
use Rattle.ap_desc.specs.declared.design.Mem.{Mem}
use Rattle.ap_desc.specs.declared.design.Node.{Node}
use Rattle.ap_desc.specs.declared.design.Node.TheVariants as node
use Rattle.ap_desc.specs.declared.design.Unit.{Unit as Resource}
use Rattle.ap_path.specs.Tables.{ArePathsOf}
use Rattle.ap_path.specs.Uses.{path_port}
use Rattle.ap_path.specs.declared.table.PathTable.{PathTable}
use Rattle.ap_merge.specs.Choices.{HasOperand, IsChoice}
use Rattle.ap_merge.specs.Selects.{GoesOver}
use Rattle.ap_merge.specs.declared.table.Choice.{Choice}
use Rattle.ap_ports.specs.Numbers.{number_of_node}
use Rattle.ap_stage.specs.declared.node.Course.{Course}
use Rattle.ap_stage.specs.declared.source.Ground.{Ground}
use Rattle.ap_stage.specs.Courses.{FitsRead, FitsUnit, users_of}
use Rattle.ap_course.specs.Instrs.{AreCoursesOf, IsGroundOf}

-- the port of a node
abbrev pub port_of_node : Node → Port
port_of_node (node.Unit u) = unit u
port_of_node (node.FileRead file port) = file_read file port
port_of_node (node.MemRead mem) = mem_read mem

-- The choice for the first operand of a node goes over the instructions of its stage that use it.
abbrev pub ChoicesGoOverUsers : Type 0
ChoicesGoOverUsers = (design : Design) (cards : List Card) (table : PathTable) (choice : Choice) (stage : ℕ) (n : Node) (courses : List Course) → FitsCards design cards → ArePathsOf design table → IsChoice table.uses choice → HasOperand (path_port (port_of_node n)) 0 choice
    → IsNodeOf design stage n → length courses ≡ length design.instrs → AreCoursesOf design stage courses → GoesOver choice.select 0 (length (users_of (number_of_node n) courses))

-- The instructions that use a unit ask operations of its card, with operands of the unit's width, and give its result a local of this width.
abbrev pub UsersFitUnits : Type 0
UsersFitUnits = (design : Design) (cards : List Card) (stage v s : ℕ) (u : Resource) (card : Card) (ground : Ground) (courses : List Course) → FitsCards design cards → IsGroundOf design ground → AreCoursesOf design stage courses → IsNodeOf design stage (node.Unit v) → slice_get design.units v ≡ Some u
    → slice_get cards u.kind ≡ Some card → 1 ≤ s → s ≤ 64 → length card.ops ≤ 2 ^ s → Each (FitsUnit ground s u.width) (users_of v courses)

-- Those that use a read port of a file ask for an index of as many bits as number its cells, and those that read a memory for an address of
-- its bits; their locals have the width of what is read.
abbrev pub UsersFitFiles : Type 0
UsersFitFiles = (design : Design) (cards : List Card) (stage f q : ℕ) (file : File) (ground : Ground) (courses : List Course) → FitsCards design cards → IsGroundOf design ground → AreCoursesOf design stage courses → IsNodeOf design stage (node.FileRead f q) → slice_get design.files f ≡ Some file
    → Each (FitsRead ground (index_bits file) file.width) (users_of (number_of_node (node.FileRead f q)) courses)

abbrev pub UsersFitMems : Type 0
UsersFitMems = (design : Design) (cards : List Card) (stage r : ℕ) (mem : Mem) (ground : Ground) (courses : List Course) → FitsCards design cards → IsGroundOf design ground → AreCoursesOf design stage courses → IsNodeOf design stage (node.MemRead r) → slice_get design.mems r ≡ Some mem
    → Each (FitsRead ground mem.address mem.width) (users_of (number_of_node (node.MemRead r)) courses)
