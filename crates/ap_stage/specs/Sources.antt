-- The nets on which the lines of a stage stand, and the values of operands that they give.
use Rattle.std.specs.Prelude.{◌≡◌, ℕ, ◌+◌, ◌-◌, ◌*◌, ◌/◌, ◌%◌, ◌^◌, ◌<◌, ◌≤◌, List, [], ◌∷◌, ◌++◌, Option, Some, None, length, option_map, slice_get}
use Rattle.std.specs.List.{AllByRecursion as Each}
use Rattle.std.specs.Option.{option_map_or}
use Rattle.ap_bits.specs.Operations.{sign_extended}
use Rattle.ap_desc.specs.Chains.{operands_of}
use Rattle.ap_desc.specs.Designs.{IsArg, field_value, width_at}
use Rattle.ap_desc.specs.declared.design.Act.{Act}
use Rattle.ap_desc.specs.declared.design.Act.TheVariants as act
use Rattle.ap_desc.specs.declared.design.Arg.{Arg}
use Rattle.ap_desc.specs.declared.design.Arg.TheVariants as arg
use Rattle.ap_desc.specs.declared.design.Field.{Field}
use Rattle.ap_net.specs.declared.cell.Wire.{Wire}
use Rattle.ap_net.specs.declared.net.ModuleNet.{ModuleNet}
use Rattle.ap_net.specs.Cells.{IsNet}
use Rattle.ap_net.specs.Draft.{Draft}
use Rattle.ap_net.specs.Ready.{numbers}
use Rattle.ap_net.specs.Readings.{Carries, Reading}
use Rattle.ap_stage.specs.declared.source.Ground.{Ground}
use Rattle.ap_stage.specs.declared.source.Scope.{Scope}

-- A row has at the place of each local of an instruction the local's net, where it has one.

-- the value at a place of a row; 0 where no net stands there
abbrev pub net_value : Reading → Option (Option Wire) → ℕ
net_value r (Some (Some w)) = r.read w.number
net_value r _ = 0

-- the value of an operand, by the nets of a stage, what the instruction may name and the nets of its locals
abbrev pub value_of : Reading → Ground → Scope → List (Option Wire) → Arg → ℕ
value_of r ground scope row (arg.Local i) = net_value r (slice_get row i)
value_of r ground scope row (arg.Field i) = option_map_or (λ (f : Field). field_value f (r.read ground.word.number)) (slice_get scope.fields i) 0
value_of r ground scope row arg.Pc = r.read ground.place.number
value_of r ground scope row arg.Link = r.read ground.link.number

-- and its bits
abbrev pub bits_of : Ground → Scope → Arg → ℕ
bits_of ground scope (arg.Local i) = width_at (λ (width : ℕ). width) scope.widths i
bits_of ground scope (arg.Field i) = width_at (λ (f : Field). f.width) scope.fields i
bits_of ground scope arg.Pc = ground.place.width
bits_of ground scope arg.Link = ground.link.width

-- the net is the operand's
abbrev pub IsOperandNet : Draft → Ground → Scope → List (Option Wire) → Arg → Wire → Type 0
IsOperandNet d ground scope row a w = Carries d (bits_of ground scope a) (λ r x. x ≡ value_of r ground scope row a) w

-- the nets of the stage are there
pub record IsGround (nets : List ModuleNet) (ground : Ground) : Type 0 where
  pub word : IsNet nets ground.word
  pub place : IsNet nets ground.place
  pub link : IsNet nets ground.link
  pub regs : Each (IsNet nets) ground.regs
  pub inputs : Each (IsNet nets) ground.inputs

-- the net at each place of a row is there, with its local's width
pub record IsRow (nets : List ModuleNet) (scope : Scope) (row : List (Option Wire)) : Type 0 where
  pub long : length row ≡ length scope.widths
  pub nets_are : (j : ℕ) (w : Wire) → slice_get row j ≡ Some (Some w) → IsNet nets w
  pub wide : (j : ℕ) (w : Wire) → slice_get row j ≡ Some (Some w) → w.width ≡ width_at (λ (width : ℕ). width) scope.widths j

-- the field lies within a word of so many bits
pub record LiesIn (bits : ℕ) (field : Field) : Type 0 where
  pub some : 1 ≤ field.width
  pub within : field.low + field.width ≤ bits

-- the fields lie within a word of so many bits
abbrev pub LieIn : ℕ → Scope → Type 0
LieIn bits scope = Each (LiesIn bits) scope.fields

-- the numbers of the nets of a row, and of all nets that operands come from
abbrev pub row_numbers : List (Option Wire) → List ℕ
row_numbers [] = []
row_numbers (None ∷ row) = row_numbers row
row_numbers (Some w ∷ row) = w.number ∷ row_numbers row

abbrev pub source_numbers : Ground → List (Option Wire) → List ℕ
source_numbers ground row = ground.word.number ∷ ground.place.number ∷ ground.link.number ∷ (numbers ground.regs ++ (numbers ground.inputs ++ row_numbers row))

-- the operand has a net
abbrev pub HasNet : List (Option Wire) → Arg → Type 0
HasNet row (arg.Local i) = (w : Wire) × (slice_get row i ≡ Some (Some w))
HasNet row _ = Unit {0}

-- What a line gives that uses no port but a register's or an input's, by the nets of a stage.
abbrev pub wire_value : Reading → List Wire → ℕ → Option ℕ
wire_value r nets place = option_map (λ (w : Wire). r.read w.number) (slice_get nets place)

abbrev pub line_value : Reading → Ground → Scope → List (Option Wire) → Act → Option ℕ
line_value r ground scope row (act.ReadReg reg) = wire_value r ground.regs reg
line_value r ground scope row (act.ReadIn input) = wire_value r ground.inputs input
line_value r ground scope row (act.Const width value) = Some value
line_value r ground scope row (act.Zext width a) = Some (value_of r ground scope row a)
line_value r ground scope row (act.Sext width a) = Some (sign_extended (value_of r ground scope row a) (bits_of ground scope a) width)
line_value r ground scope row (act.Slice high low a) = Some ((value_of r ground scope row a / 2 ^ low) % 2 ^ (high - low + 1))
line_value r ground scope row (act.Cat a b) = Some (value_of r ground scope row a * 2 ^ bits_of ground scope b + value_of r ground scope row b)
line_value r ground scope row _ = None

-- and its bits
abbrev pub line_bits : Ground → Scope → Act → ℕ
line_bits ground scope (act.ReadReg reg) = width_at (λ (w : Wire). w.width) ground.regs reg
line_bits ground scope (act.ReadIn input) = width_at (λ (w : Wire). w.width) ground.inputs input
line_bits ground scope (act.Const width value) = width
line_bits ground scope (act.Zext width a) = width
line_bits ground scope (act.Sext width a) = width
line_bits ground scope (act.Slice high low a) = high - low + 1
line_bits ground scope (act.Cat a b) = bits_of ground scope a + bits_of ground scope b
line_bits ground scope _ = 0

-- the net is that of what the line gives
abbrev pub IsLineNet : Draft → Ground → Scope → List (Option Wire) → Act → Wire → Type 0
IsLineNet d ground scope row a w = Carries d (line_bits ground scope a) (λ r x. line_value r ground scope row a ≡ Some x) w

-- the widths of a line's operands are those that the line asks for
abbrev pub HasRoom : Ground → Scope → Act → Type 0
HasRoom ground scope (act.Const width value) = (1 ≤ width) × (width ≤ 64) × (value < 2 ^ width)
HasRoom ground scope (act.Zext width a) = (bits_of ground scope a ≤ width) × (width ≤ 64)
HasRoom ground scope (act.Sext width a) = (bits_of ground scope a ≤ width) × (width ≤ 64)
HasRoom ground scope (act.Slice high low a) = (low ≤ high) × (high < bits_of ground scope a)
HasRoom ground scope (act.Cat a b) = bits_of ground scope a + bits_of ground scope b ≤ 64
HasRoom ground scope _ = Unit {0}

-- the line uses no port but a register's or an input's, and its operands have nets
abbrev pub IsWired : List (Option Wire) → Act → Type 0
IsWired row (act.ReadReg reg) = Unit {0}
IsWired row (act.ReadIn input) = Unit {0}
IsWired row (act.Const width value) = Unit {0}
IsWired row (act.Zext width a) = HasNet row a
IsWired row (act.Sext width a) = HasNet row a
IsWired row (act.Slice high low a) = HasNet row a
IsWired row (act.Cat a b) = HasNet row a × HasNet row b
IsWired row _ = ⊥

-- what the line names is there
abbrev pub NamesNets : Ground → Scope → Act → Type 0
NamesNets ground scope (act.ReadReg reg) = reg < length ground.regs
NamesNets ground scope (act.ReadIn input) = input < length ground.inputs
NamesNets ground scope a = Each (IsArg (length scope.widths) scope.fields) (operands_of a)
