-- Inputs of a unit over some cycles, assigns of a small module, cards, and a method, at which definitions are worked out.
use Rattle.std.specs.Prelude.{ℕ, ◌+◌, List, [], ◌∷◌, codes, slice_index_or, Bool, nat_lt}
use Rattle.ap_bits.specs.declared.term.BinOp.TheVariants.{Sub}
use Rattle.ap_bits.specs.declared.term.Term.{Bin, A, B}
use Rattle.ap_bits.specs.declared.card.Card.{Card}
use Rattle.ap_bits.specs.declared.card.Widths.TheVariants.{Any}
use Rattle.ap_bits.specs.declared.card.Latency.TheVariants.{One}
use Rattle.ap_net.specs.declared.cell.Wire.{Wire}
use Rattle.ap_net.specs.declared.cell.TwoOp.TheVariants.{Add}
use Rattle.ap_net.specs.declared.cell.Cell.TheVariants.{Copy, Two}
use Rattle.ap_net.specs.declared.net.Assign.{Assign}
use Rattle.ap_unit.specs.Ages.{UnitInput}
use Rattle.ap_unit.specs.Methods.{Method}

-- a unit with one operation, asked for 5 and 7, or not asked
abbrev pub asked : ℕ → UnitInput
asked adv = record { sel = 0; a = 5; b = 7; go = 1; adv = adv }

abbrev pub idle : UnitInput
idle = record { sel = 0; a = 0; b = 0; go = 0; adv = 0 }

-- not asked; asked for four cycles, the last of them with adv; asked again, and given up after one cycle
abbrev pub session : List UnitInput
session = idle ∷ asked 0 ∷ asked 0 ∷ asked 0 ∷ asked 1 ∷ asked 0 ∷ idle ∷ idle ∷ []

abbrev pub session_at : ℕ → UnitInput
session_at j = slice_index_or session j idle

-- adv comes a cycle too early
abbrev pub hasty_at : ℕ → UnitInput
hasty_at j = slice_index_or (asked 0 ∷ asked 1 ∷ []) j idle

abbrev bit : ℕ → Wire
bit number = record { number = number; width = 1 }

-- the net 2 is the sum of the nets 0 and 3, and the net 3 is the net 1
abbrev pub chain : List Assign
chain = record { to = bit 2; cell = Two Add (bit 0) (bit 3) } ∷ record { to = bit 3; cell = Copy (bit 1) } ∷ []

abbrev pub below_4 : ℕ → Bool
below_4 n = nat_lt n 4

-- a kind that subtracts, and a kind of a name without operations
abbrev pub less_card : Card
less_card = record { name = codes "less"; ops = record { name = codes "sub"; term = Bin Sub A B } ∷ []; widths = Any; latency = One }

abbrev pub named_card : List ℕ → Card
named_card name = record { name = name; ops = []; widths = Any; latency = One }

-- a method that begins with 0 and the first operand, and adds the second one to the high number in each step
abbrev pub adding_up : Method
adding_up = record { start = λ a b. record { high = 0; low = a }; step = λ a b state. record { high = state.high + b; low = state.low } }
