-- What the operands of ports are selected from.
use Rattle.std.specs.Prelude.{◌≡◌, ℕ, ◌==◌, ◌&&◌, ◌<◌, Bool, true, false, List, Any, Contains, filter_map, length, slice_get, Option, Some, None, if◌then◌else◌}
use Rattle.std.specs.List.{AllByRecursion as Each}
use Rattle.std.specs.Option.{option_map, option_map_or}
use Rattle.ap_desc.specs.declared.design.Arg.{Arg}
use Rattle.ap_path.specs.Uses.{operand_at}
use Rattle.ap_path.specs.declared.table.PathPort.{PathPort}
use Rattle.ap_path.specs.declared.table.PathPort.TheVariants as path
use Rattle.ap_path.specs.declared.table.PathUse.{PathUse}
use Rattle.ap_merge.specs.Selects.{GoesOver, IsBalanced, Selects}
use Rattle.ap_merge.specs.declared.table.Choice.{Choice}
use Rattle.ap_merge.specs.declared.table.Source.{Source}

-- both are one port
abbrev pub is_port : PathPort → PathPort → Bool
is_port (path.Unit a) (path.Unit b) = a == b
is_port (path.FileRead a p) (path.FileRead b q) = (a == b) && (p == q)
is_port (path.FileWrite a p) (path.FileWrite b q) = (a == b) && (p == q)
is_port (path.RegWrite a) (path.RegWrite b) = a == b
is_port (path.MemRead a) (path.MemRead b) = a == b
is_port (path.MemWrite a) (path.MemWrite b) = a == b
is_port path.Transfer path.Transfer = true
is_port _ _ = false

-- what the instruction of a use hands in for an operand of the port
abbrev pub source_of : PathPort → ℕ → PathUse → Option Source
source_of port operand used = if is_port used.port port then option_map (λ (a : Arg). record { instr = used.instr; from = a }) (operand_at used operand) else None

-- and those of all uses
abbrev pub sources_of : List PathUse → PathPort → ℕ → List Source
sources_of uses port operand = filter_map (source_of port operand) uses

-- the entries are what the uses hand in, of which there is some, and the selection takes the one whose instruction's condition alone is 1
pub record IsChoice (uses : List PathUse) (c : Choice) : Type 0 where
  pub entries : c.entries ≡ sources_of uses c.port c.operand
  pub some : 0 < length c.entries
  pub selects : Selects c.select 0 (length c.entries)
  pub over : GoesOver c.select 0 (length c.entries)
  pub balanced : IsBalanced c.select (length c.entries)

-- the choice is for this operand of the port
abbrev pub HasOperand : PathPort → ℕ → Choice → Type 0
HasOperand port operand c = (c.port ≡ port) × (c.operand ≡ operand)

-- each operand that some use hands in has one choice
pub record AreChoices (uses : List PathUse) (choices : List Choice) : Type 0 where
  pub each : Each (IsChoice uses) choices
  pub all : (used : PathUse) (operand : ℕ) (a : Arg) → Contains uses used → operand_at used operand ≡ Some a → Any (HasOperand used.port operand) choices
  pub once : (i j : ℕ) (one other : Choice) → slice_get choices i ≡ Some one → slice_get choices j ≡ Some other → HasOperand one.port one.operand other → i ≡ j

-- the condition of an entry's instruction is 1, where this says of each instruction whether its condition is
abbrev pub is_entry_on : (ℕ → Bool) → List Source → ℕ → Bool
is_entry_on on entries place = option_map_or (λ (s : Source). on s.instr) (slice_get entries place) false

-- this instruction's condition is 1, and no other's
pub record IsOnlyInstr (on : ℕ → Bool) (instr : ℕ) : Type 0 where
  pub is_on : on instr ≡ true
  pub alone : (other : ℕ) → on other ≡ true → other ≡ instr
