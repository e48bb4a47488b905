-- Which line the pieces of one give, by the places in which its names and numbers stand. What stands in the other places isn't
-- looked at: the bytes are compared with the text of the line that was found.
use Rattle.std.specs.Prelude.{ℕ, ◌+◌, ◌&&◌, nat_le, nat_lt, Bool, true, false, List, [], ◌∷◌, length, drop, slice_get, codes, Option, Some, None, option_map, option_and_then, if◌then◌else◌}
use Rattle.std.specs.Str.{bytes_eq}
use Rattle.ap_text.specs.Numbers.{number_value}
use Rattle.ap_net.specs.declared.cell.TwoOp.{TwoOp}
use Rattle.ap_net.specs.declared.cell.TwoOp.TheVariants as op
use Rattle.ap_net.specs.declared.net.Net.{Net}
use Rattle.ap_net.specs.Names.{is_net_name}
use Rattle.ap_vr.specs.declared.line.Right.{Right}
use Rattle.ap_vr.specs.declared.line.Right.TheVariants as right
use Rattle.ap_vr.specs.declared.line.NamedAssign.{NamedAssign}
use Rattle.ap_vr.specs.declared.line.NamedNext.{NamedNext}
use Rattle.ap_vr.specs.declared.line.Connection.{Connection}
use Rattle.ap_vr.specs.declared.line.NamedInstance.{NamedInstance}
use Rattle.ap_vr.specs.declared.line.Line.{Line}
use Rattle.ap_vr.specs.declared.line.Line.TheVariants as line

-- both values, where both are there
abbrev pub beside : {A B : Type 0} → Option A → Option B → Option (A × B)
beside None b = None
beside (Some a) None = None
beside (Some a) (Some b) = Some (a, b)

-- the name that a piece is, and one that may be read or connected
unfoldable pub name_in : List ℕ → Option (List ℕ)
name_in piece = if is_net_name piece then Some piece else None

unfoldable pub operand_in : List ℕ → Option (List ℕ)
operand_in piece = if bytes_eq piece (codes "clk") then None else if bytes_eq piece (codes "rst") then None else name_in piece

-- the width that a number is, where it is from 1 to 64
abbrev pub if_width : ℕ → Option ℕ
if_width v = if nat_le 1 v && nat_le v 64 then Some v else None

-- the width of bits that begin with this one
abbrev pub if_high : ℕ → Option ℕ
if_high v = if nat_lt v 64 then Some (v + 1) else None

-- a constant's value after its letter
unfoldable pub digits_after : List ℕ → Option ℕ
digits_after [] = None
digits_after (letter ∷ digits) = number_value digits

-- what the piece of this place gives
abbrev pub name_at : List (List ℕ) → ℕ → Option (List ℕ)
name_at pieces i = option_and_then name_in (slice_get pieces i)

abbrev pub operand_at : List (List ℕ) → ℕ → Option (List ℕ)
operand_at pieces i = option_and_then operand_in (slice_get pieces i)

abbrev pub number_at : List (List ℕ) → ℕ → Option ℕ
number_at pieces i = option_and_then number_value (slice_get pieces i)

abbrev pub width_at : List (List ℕ) → ℕ → Option ℕ
width_at pieces i = option_and_then if_width (number_at pieces i)

abbrev pub high_at : List (List ℕ) → ℕ → Option ℕ
high_at pieces i = option_and_then if_high (number_at pieces i)

abbrev pub value_at : List (List ℕ) → ℕ → Option ℕ
value_at pieces i = option_and_then digits_after (slice_get pieces i)

-- the operator of a sign
unfoldable pub op_in : List ℕ → Option TwoOp
op_in piece =
    if bytes_eq piece (codes "+") then Some op.Add
    else if bytes_eq piece (codes "-") then Some op.Sub
    else if bytes_eq piece (codes "&") then Some op.And
    else if bytes_eq piece (codes "|") then Some op.Or
    else if bytes_eq piece (codes "^") then Some op.Xor
    else if bytes_eq piece (codes "<") then Some op.Ltu
    else None

-- a right side of two operands or three, by its sign
abbrev pub two_in : TwoOp → Option (List ℕ × List ℕ) → Option Right
two_in o both = option_map (λ v. right.Two o v.0 v.1) both

unfoldable pub joined_in : List ℕ → List (List ℕ) → Option Right
joined_in sign pieces =
    if bytes_eq sign (codes "?") then option_map (λ v. right.Choose v.0 v.1.0 v.1.1) (beside (operand_at pieces 0) (beside (operand_at pieces 4) (operand_at pieces 8)))
    else if bytes_eq sign (codes "=") then two_in op.Eq (beside (operand_at pieces 0) (operand_at pieces 5))
    else option_map (λ v. right.Two v.0 v.1.0 v.1.1) (beside (op_in sign) (beside (operand_at pieces 0) (operand_at pieces 4)))

-- a right side by its second piece
unfoldable pub plain_right_in : List ℕ → List (List ℕ) → Option Right
plain_right_in second pieces =
    if bytes_eq second (codes ";") then option_map (λ v. right.Copy v) (operand_at pieces 0)
    else if bytes_eq second (codes "'") then option_map (λ v. right.Const v.0 v.1) (beside (width_at pieces 0) (value_at pieces 2))
    else if bytes_eq second (codes "[") then option_map (λ v. right.Slice v.0 v.1.0 v.1.1) (beside (operand_at pieces 0) (beside (number_at pieces 2) (number_at pieces 4)))
    else option_and_then (λ sign. joined_in sign pieces) (slice_get pieces 2)

-- a right side by its first piece
unfoldable pub right_by : List ℕ → List (List ℕ) → Option Right
right_by first pieces =
    if bytes_eq first (codes "~") then option_map (λ v. right.Not v) (operand_at pieces 1)
    else if bytes_eq first (codes "{") then option_map (λ v. right.Cat v.0 v.1) (beside (operand_at pieces 1) (operand_at pieces 4))
    else option_and_then (λ second. plain_right_in second pieces) (slice_get pieces 1)

unfoldable pub right_in : List (List ℕ) → Option Right
right_in pieces = option_and_then (λ first. right_by first pieces) (slice_get pieces 0)

-- the connections that stand from here on
abbrev pub join_in : List ℕ → List ℕ → Option Connection
join_in port net = option_map (λ v. record { port = v.0; net = v.1 }) (beside (name_in port) (operand_in net))

-- a connection before others, where they are there
abbrev pub joined_with : Option Connection → Option (List Connection) → Option (List Connection)
joined_with first more = option_map (λ v. v.0 ∷ v.1) (beside first more)

unfoldable pub connections_in : List (List ℕ) → Option (List Connection)
connections_in (a ∷ b ∷ c ∷ port ∷ d ∷ net ∷ e ∷ pieces) = joined_with (join_in port net) (connections_in pieces)
connections_in _ = Some []

-- the forms
abbrev pub declared_of : List ℕ × ℕ → Net
declared_of v = record { name = v.0; width = v.1 }

unfoldable pub declared_in : List (List ℕ) → Option Net
declared_in pieces = option_map declared_of (beside (name_at pieces 10) (high_at pieces 5))

unfoldable pub port_in : Bool → List (List ℕ) → Option Line
port_in output pieces = option_map (λ v. line.Port (record { name = v.0; width = v.1; output = output }) (nat_lt 12 (length pieces))) (beside (name_at pieces 10) (high_at pieces 5))

unfoldable pub input_by : List ℕ → List (List ℕ) → Option Line
input_by word pieces =
    if bytes_eq word (codes "clk") then Some line.Clock
    else if bytes_eq word (codes "rst") then Some line.Reset
    else port_in false pieces

unfoldable pub input_in : List (List ℕ) → Option Line
input_in pieces = option_and_then (λ word. input_by word pieces) (slice_get pieces 4)

unfoldable pub assign_in : List (List ℕ) → Option NamedAssign
assign_in pieces = option_map (λ v. record { to = v.0; right = v.1 }) (beside (name_at pieces 4) (right_in (drop 8 pieces)))

unfoldable pub next_in : List (List ℕ) → Option NamedNext
next_in pieces = option_map (λ v. record { register = v.0; width = v.1.0; reset = v.1.1.0; from = v.1.1.1 }) (beside (name_at pieces 17) (beside (width_at pieces 22) (beside (value_at pieces 24) (operand_at pieces 34))))

unfoldable pub instance_in : List (List ℕ) → Option NamedInstance
instance_in pieces = option_map (λ v. record { «module» = v.0; name = v.1.0; connections = v.1.1 }) (beside (name_at pieces 2) (beside (name_at pieces 4) (connections_in (drop 19 pieces))))

-- a line whose first word is this one, after two blanks
unfoldable pub inner_line_in : List ℕ → List (List ℕ) → Option Line
inner_line_in word pieces =
    if bytes_eq word (codes "input") then input_in pieces
    else if bytes_eq word (codes "output") then port_in true pieces
    else if bytes_eq word (codes "wire") then option_map (λ n. line.Wire n) (declared_in pieces)
    else if bytes_eq word (codes "reg") then option_map (λ n. line.Reg n) (declared_in pieces)
    else if bytes_eq word (codes "assign") then option_map (λ a. line.Assign a) (assign_in pieces)
    else if bytes_eq word (codes "always") then option_map (λ x. line.Always x) (next_in pieces)
    else option_map (λ i. line.Instance i) (instance_in pieces)

-- a line by its first piece
unfoldable pub line_by : List ℕ → List (List ℕ) → Option Line
line_by first pieces =
    if bytes_eq first (codes "module") then option_map (λ name. line.Module name) (name_at pieces 2)
    else if bytes_eq first (codes "endmodule") then Some line.End
    else if bytes_eq first (codes ")") then Some line.Close
    else option_and_then (λ word. inner_line_in word pieces) (slice_get pieces 2)

-- the line that pieces give
unfoldable pub line_in : List (List ℕ) → Option Line
line_in pieces = option_and_then (λ first. line_by first pieces) (slice_get pieces 0)
