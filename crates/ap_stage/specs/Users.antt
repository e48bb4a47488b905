-- What an instruction asks of a port whose result one of its lines gives its local.
use Rattle.std.specs.Prelude.{◌≡◌, ℕ, ◌<◌, ◌≤◌, ◌^◌, List, [], ◌∷◌, Option, None, Some, length}
use Rattle.std.specs.List.{AllByRecursion as Each}
use Rattle.ap_desc.specs.Designs.{IsArg}
use Rattle.ap_desc.specs.declared.design.Arg.{Arg}
use Rattle.ap_net.specs.declared.cell.Wire.{Wire}
use Rattle.ap_net.specs.Readings.{Reading}
use Rattle.ap_stage.specs.declared.source.Ground.{Ground}
use Rattle.ap_stage.specs.declared.source.Scope.{Scope}
use Rattle.ap_stage.specs.declared.user.Asked.{Asked}
use Rattle.ap_stage.specs.declared.user.Asked.TheVariants as asked
use Rattle.ap_stage.specs.declared.user.Handed.{Handed}
use Rattle.ap_stage.specs.declared.user.Handed.TheVariants as given
use Rattle.ap_stage.specs.declared.user.Part.{Part}
use Rattle.ap_stage.specs.declared.user.Part.TheVariants as part
use Rattle.ap_stage.specs.Sources.{HasNet, bits_of, value_of}

-- the operands of what is asked
abbrev pub args_of : Asked → List Arg
args_of (asked.Operate u) = u.a ∷ u.b ∷ []
args_of (asked.Read index) = index ∷ []

-- what is handed in in for a part, where the port has one
abbrev pub handed_in : Asked → Part → Option Handed
handed_in (asked.Operate u) part.Operation = Some (given.Number u.op)
handed_in (asked.Operate u) part.First = Some (given.Operand u.a)
handed_in (asked.Operate u) part.Second = Some (given.Operand u.b)
handed_in (asked.Read index) part.Operation = None
handed_in (asked.Read index) part.First = Some (given.Operand index)
handed_in (asked.Read index) part.Second = None

-- an operand is one of the instruction
abbrev pub IsHanded : Scope → Handed → Type 0
IsHanded scope (given.Number n) = Unit {0}
IsHanded scope (given.Operand a) = IsArg (length scope.widths) scope.fields a

-- a number has room in so many bits, and an operand has so many
abbrev pub FitsHanded : Ground → Scope → ℕ → Handed → Type 0
FitsHanded nets scope w (given.Number n) = (1 ≤ w) × (w ≤ 64) × (n < 2 ^ w)
FitsHanded nets scope w (given.Operand a) = bits_of nets scope a ≡ w

-- an operand has its net
abbrev pub HasHanded : List (Option Wire) → Handed → Type 0
HasHanded row (given.Number n) = Unit {0}
HasHanded row (given.Operand a) = HasNet row a

-- the value of what is handed in in
abbrev pub handed_value : Reading → Ground → Scope → List (Option Wire) → Handed → ℕ
handed_value r nets scope row (given.Number n) = n
handed_value r nets scope row (given.Operand a) = value_of r nets scope row a

-- all operands have nets
abbrev pub CanAsk : List (Option Wire) → Asked → Type 0
CanAsk row a = Each (HasNet row) (args_of a)
