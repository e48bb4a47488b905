-- Groups of forms.
use Rattle.ap_desc.specs.declared.statement.Statement.{Statement}
use Rattle.ap_desc.specs.declared.statement.Statement.TheVariants as s

-- a constant, an extension, a slice, or two operands side by side
abbrev pub IsWiring : Statement → Type 0
IsWiring (s.Const stage to width value) = Unit {0}
IsWiring (s.Zext stage to width a) = Unit {0}
IsWiring (s.Sext stage to width a) = Unit {0}
IsWiring (s.Slice stage to high low a) = Unit {0}
IsWiring (s.Cat stage to a b) = Unit {0}
IsWiring _ = ⊥

-- a micro-operation that makes a new local
abbrev pub Assigns : Statement → Type 0
Assigns (s.Compute stage to unit op a b) = Unit {0}
Assigns (s.ReadFile stage to file port index) = Unit {0}
Assigns (s.ReadRegister stage to reg) = Unit {0}
Assigns (s.ReadMemory stage to mem at) = Unit {0}
Assigns (s.ReadInput stage to input) = Unit {0}
Assigns statement = IsWiring statement

-- a format, an instruction's begin or end, or a micro-operation
abbrev pub IsOfInstructions : Statement → Type 0
IsOfInstructions (s.Stages count) = ⊥
IsOfInstructions (s.Address bits) = ⊥
IsOfInstructions (s.Word bits) = ⊥
IsOfInstructions (s.Transfer stage slots) = ⊥
IsOfInstructions (s.Reg name width reset) = ⊥
IsOfInstructions (s.File name width cells reads writes) = ⊥
IsOfInstructions (s.Mem name address width) = ⊥
IsOfInstructions (s.In name width) = ⊥
IsOfInstructions (s.Unit name kind width) = ⊥
IsOfInstructions _ = Unit {0}
