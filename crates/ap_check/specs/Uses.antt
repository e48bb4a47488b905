-- What a statement uses of what is declared before it, and what stops it.
use Rattle.std.specs.Prelude.{◌≡◌, ℕ, List, [], ◌∷◌, ◌++◌, Option, Some, None, option_to_list, Result, MatchResult}
use Rattle.std.specs.Option.{option_map_or}
use Rattle.ap_bits.specs.Cards.{operation_names}
use Rattle.ap_bits.specs.declared.card.Card.{Card}
use Rattle.ap_desc.specs.declared.fault.Fault.{Fault}
use Rattle.ap_desc.specs.declared.statement.Statement.{Statement}
use Rattle.ap_desc.specs.declared.statement.Statement.TheVariants as s
use Rattle.ap_desc.specs.Instructions.{assigned_name}
use Rattle.ap_desc.specs.Parts.{card_named, place_of}
use Rattle.ap_desc.specs.Spelling.{field_names}
use Rattle.ap_check.specs.Names.{with_name}
use Rattle.ap_check.specs.Tables.{line_act, name_fault}
use Rattle.ap_check.specs.declared.declared.Declared.{Declared}
use Rattle.ap_check.specs.declared.stop.Stop.{Stop}
use Rattle.ap_check.specs.declared.stop.Stop.TheVariants as stop
use Rattle.ap_check.specs.declared.uses.Use.{Use}
use Rattle.ap_check.specs.declared.uses.Use.TheVariants as u

-- what stops a statement is this fault, or want of memory
abbrev pub IsStoppedBy : Option Fault → Stop → Type 0
IsStoppedBy fault (stop.Fault kind) = fault ≡ Some kind
IsStoppedBy fault stop.NoMemory = Unit {0}

-- what a statement uses
abbrev pub use_of : List Card → Declared → Statement → Use
use_of cards d (s.Format name fields) = u.Fields (field_names fields)
use_of cards d (s.Instr name format fixed) = u.Format (place_of d.formats format) (field_names fixed)
use_of cards d statement = option_map_or u.Line (line_act d statement) u.Nothing

-- the statement has no fault of names, and uses this; or its first fault of names stops it
abbrev pub IsUse : List Card → Declared → Statement → Result Use Stop → Type 0
IsUse cards d statement result = MatchResult result (λ used. (name_fault cards d statement ≡ None) × (used ≡ use_of cards d statement)) (IsStoppedBy (name_fault cards d statement))

-- the table with the local that a line assigns
abbrev pub with_assigned : List (List ℕ) → List (List ℕ) → List (List ℕ)
with_assigned locals [] = locals
with_assigned locals (name ∷ names) = with_name locals name

-- a local that a line assigns, if it assigns one
abbrev pub IsAssigned : Statement → Option (List ℕ) → Type 0
IsAssigned statement to = assigned_name statement ≡ option_to_list to

-- the tables with a unit of a kind of the shelf, with a format of these fields, with an instruction of a format
abbrev pub with_unit : List Card → Declared → List ℕ → List ℕ → Declared
with_unit cards d name kind = record d { units = with_name d.units name; operations = d.operations ++ option_map_or operation_names (card_named cards kind) [] ∷ [] }

abbrev pub with_fields : Declared → List ℕ → Use → Declared
with_fields d name (u.Fields names) = record d { formats = with_name d.formats name; fields = d.fields ++ names ∷ [] }
with_fields d name _ = d

abbrev pub with_format : Declared → List ℕ → Use → Declared
with_format d name (u.Format i names) = record d { instrs = with_name d.instrs name; begun = Some i; locals = [] }
with_format d name _ = d

-- the tables with what a statement declares that uses this
abbrev pub declared_with : List Card → Declared → Statement → Use → Declared
declared_with cards d (s.Reg name width reset) used = record d { regs = with_name d.regs name }
declared_with cards d (s.File name width cells reads writes) used = record d { files = with_name d.files name; ports = d.ports ++ record { reads = reads; writes = writes } ∷ [] }
declared_with cards d (s.Mem name address width) used = record d { mems = with_name d.mems name }
declared_with cards d (s.In name width) used = record d { inputs = with_name d.inputs name }
declared_with cards d (s.Unit name kind width) used = with_unit cards d name kind
declared_with cards d (s.Format name fields) used = with_fields d name used
declared_with cards d (s.Instr name format fixed) used = with_format d name used
declared_with cards d statement used = record d { locals = with_assigned d.locals (assigned_name statement) }

-- a line that writes or transfers
abbrev pub Acts : Statement → Type 0
Acts (s.WriteFile stage file port index value guard) = Unit {0}
Acts (s.WriteRegister stage reg value guard) = Unit {0}
Acts (s.WriteMemory stage mem at value guard) = Unit {0}
Acts (s.Branch stage cond target) = Unit {0}
Acts (s.Jump stage target) = Unit {0}
Acts _ = ⊥

-- or that wires
abbrev pub IsWiredOrActs : Statement → Type 0
IsWiredOrActs (s.Const stage to width value) = Unit {0}
IsWiredOrActs (s.Zext stage to width a) = Unit {0}
IsWiredOrActs (s.Sext stage to width a) = Unit {0}
IsWiredOrActs (s.Slice stage to high low a) = Unit {0}
IsWiredOrActs (s.Cat stage to a b) = Unit {0}
IsWiredOrActs statement = Acts statement
