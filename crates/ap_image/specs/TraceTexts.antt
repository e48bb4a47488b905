-- What the text of a trace says, which faults it has, and the text that is written of a trace. Each line is one cycle: the value
-- of the wait bit, and then one number for each input port, in order.
use Rattle.std.specs.Prelude.{◌≡◌, ℕ, ◌^◌, ◌==◌, ◌++◌, ◌&&◌, nat_lt, not, Bool, true, false, if◌then◌else◌, List, [], ◌∷◌, length, filter_map, codes, Option, Some, None, MatchResult, Result}
use Rattle.std.specs.Fmt.{decimal}
use Rattle.std.specs.List.{flat_map}
use Rattle.std.specs.Option.{option_map, option_map_or}
use Rattle.ap_text.specs.Lines.{TextLine}
use Rattle.ap_text.specs.Numbers.{number_value}
use Rattle.ap_image.specs.declared.fault.TextKind.TheVariants.{BadForm, NoSuchPart, ValueTooWide, TooManyWords}
use Rattle.ap_image.specs.declared.fault.TextFault.{TextFault}
use Rattle.ap_image.specs.declared.fault.TextFault.TheVariants.{NoMemory}
use Rattle.ap_image.specs.declared.trace.Trace.{Trace}
use Rattle.ap_image.specs.declared.trace.TraceLine.{TraceLine}
use Rattle.ap_image.specs.Shapes.{Shape}
use Rattle.ap_image.specs.FitsShape.{LineFitsShape, TraceFitsShape}
use Rattle.ap_image.specs.TextFaults.{AreFine, IsFine, Judge}

abbrev pub before_numbers : Option ℕ → Option (List ℕ) → Option (List ℕ)
before_numbers None numbers = None
before_numbers (Some number) None = None
before_numbers (Some number) (Some numbers) = Some (number ∷ numbers)

-- the numbers that tokens are, where each of them is one
abbrev pub numbers_in : List (List ℕ) → Option (List ℕ)
numbers_in [] = Some []
numbers_in (token ∷ tokens) = before_numbers (number_value token) (numbers_in tokens)

-- the numbers of a line, where it consists of numbers
unfoldable pub numbers_by : TextLine → Option (List ℕ)
numbers_by line = if line.clean then numbers_in line.tokens else None

-- the widths of the wait bit and of the input ports
abbrev pub widths_of : Shape → List ℕ
widths_of shape = 1 ∷ shape.inputs

-- each number is below 2 to the width beside it
abbrev pub are_within : List ℕ → List ℕ → Bool
are_within [] widths = true
are_within (number ∷ numbers) [] = true
are_within (number ∷ numbers) (width ∷ widths) = nat_lt number (2 ^ width) && are_within numbers widths

-- the line hasn't a number for each of the widths, or something that is no number
abbrev pub is_miscounted : Shape → TextLine → Bool
is_miscounted shape line = not (option_map_or (λ numbers. length numbers == length (widths_of shape)) (numbers_by line) false)

-- the line has a number that doesn't fit
abbrev pub has_too_wide : Shape → TextLine → Bool
has_too_wide shape line = option_map_or (λ numbers. not (are_within numbers (widths_of shape))) (numbers_by line) false

-- how traces are judged
abbrev pub trace_fault : Shape → Judge
trace_fault shape BadForm before line = is_miscounted shape line
trace_fault shape NoSuchPart before line = false
trace_fault shape ValueTooWide before line = has_too_wide shape line
trace_fault shape TooManyWords before line = false

-- the cycle of a line's numbers
abbrev pub cycle_of : List ℕ → TraceLine
cycle_of [] = record { wait = false; ports = [] }
cycle_of (wait ∷ ports) = record { wait = wait == 1; ports = ports }

-- the cycle that a line is, where it consists of numbers
abbrev pub cycle_by : TextLine → Option TraceLine
cycle_by line = option_map cycle_of (numbers_by line)

-- the trace of some lines: a cycle for each of them
abbrev pub trace_of : List TextLine → Trace
trace_of lines = record { lines = filter_map cycle_by lines }

-- the line is this cycle, whatever lines stand before it
pub record IsCycleOf (shape : Shape) (line : TextLine) (cycle : TraceLine) : Type 0 where
  pub gives : cycle_by line ≡ Some cycle
  pub fine : (before : List TextLine) → IsFine (trace_fault shape) before line
  pub fits : LineFitsShape cycle shape

-- the lines are this trace
pub record IsTraceOf (shape : Shape) (lines : List TextLine) (trace : Trace) : Type 0 where
  pub gives : trace.lines ≡ filter_map cycle_by lines
  pub fine : AreFine (trace_fault shape) [] lines
  pub fits : TraceFitsShape trace shape

abbrev pub after_space : ℕ → List ℕ
after_space number = codes " " ++ decimal number

-- the line of a cycle: decimal numbers with one space between them
abbrev pub cycle_text : TraceLine → List ℕ
cycle_text cycle = (if cycle.wait then codes "1" else codes "0") ++ flat_map after_space cycle.ports ++ codes "\n"

-- the text of a trace
abbrev pub trace_text : Trace → List ℕ
trace_text trace = flat_map cycle_text trace.lines

-- the text was read as this trace, or memory ran out
abbrev pub IsTraceOrMemory : Trace → Result Trace TextFault → Type 0
IsTraceOrMemory trace result = MatchResult result (λ read. read ≡ trace) (λ fault. fault ≡ NoMemory)
