-- An example description up to the middle of an instruction, in whose scope further lines are judged: four stages, a part of each sort,
-- and an instruction with a local `a` of 8 bits and a local `b` of 2 bits.
use Rattle.std.specs.Prelude.{Bool, List, [], ◌∷◌, ◌++◌, codes, take}
use Rattle.ap_bits.specs.declared.card.Card.{Card}
use Rattle.ap_bits.specs.declared.card.Latency.TheVariants.{One}
use Rattle.ap_bits.specs.declared.card.Widths.TheVariants.{PowersOfTwo}
use Rattle.ap_bits.specs.declared.term.BinOp.TheVariants as two
use Rattle.ap_bits.specs.declared.term.Term.{Bin, A, B}
use Rattle.ap_desc.specs.declared.description.Numbered.{Numbered}
use Rattle.ap_desc.specs.declared.fault.Fault.{Fault}
use Rattle.ap_desc.specs.declared.statement.Statement.{Statement}
use Rattle.ap_desc.specs.declared.statement.Statement.TheVariants as s
use Rattle.ap_desc.specs.declared.statement.Word.{Word}
use Rattle.ap_desc.specs.declared.statement.Word.TheVariants.{Named}
use Rattle.ap_desc.specs.Examples.{adder_card, adder_statements}
use Rattle.ap_desc.specs.StatementFaults.{is_faulty}
use Rattle.ap_desc.specs.Scope.{Scope, scope_after, scope_with}

-- a shelf with a kind of any width that adds, and a kind of widths that are powers of two that shifts
abbrev pub two_cards : List Card
two_cards = adder_card ∷ record { name = codes "shift"; ops = record { name = codes "sll"; term = Bin two.Sll A B } ∷ []; widths = PowersOfTwo; latency = One } ∷ []

-- the header
abbrev pub header_lines : List Numbered
header_lines =
    record { line = 1; statement = s.Stages 4 } ∷ record { line = 2; statement = s.Address 4 } ∷ record { line = 3; statement = s.Word 8 }
    ∷ record { line = 4; statement = s.Transfer 2 1 } ∷ []

-- a register, a file of four cells with one read and one write port, a memory, an input and a unit
abbrev pub part_lines : List Numbered
part_lines =
    record { line = 5; statement = s.Reg (codes "R") 8 3 } ∷ record { line = 6; statement = s.File (codes "F") 8 4 1 1 }
    ∷ record { line = 7; statement = s.Mem (codes "M") 4 8 } ∷ record { line = 8; statement = s.In (codes "P") 8 }
    ∷ record { line = 9; statement = s.Unit (codes "U") (codes "alu") 8 } ∷ []

-- a format, NOP, and the begin of an instruction
abbrev pub instr_lines : List Numbered
instr_lines =
    record { line = 10; statement = s.Format (codes "G") (record { field = codes "op"; number = 4 } ∷ record { field = codes "v"; number = 3 } ∷ record { field = codes "g"; number = 1 } ∷ []) }
    ∷ record { line = 11; statement = s.Instr (codes "NOP") (codes "G") (record { field = codes "op"; number = 0 } ∷ []) } ∷ record { line = 12; statement = s.End }
    ∷ record { line = 13; statement = s.Instr (codes "I") (codes "G") (record { field = codes "op"; number = 1 } ∷ []) }
    ∷ record { line = 14; statement = s.ReadRegister 1 (codes "a") (codes "R") } ∷ record { line = 15; statement = s.Slice 1 (codes "b") 1 0 (Named (codes "a")) } ∷ []

-- the fault holds of a statement after the header; after the parts; and inside of the instruction
abbrev pub in_header : Statement → Fault → Bool
in_header statement kind = is_faulty two_cards (scope_after header_lines two_cards) statement kind

abbrev pub in_parts : Statement → Fault → Bool
in_parts statement kind = is_faulty two_cards (scope_after (header_lines ++ part_lines) two_cards) statement kind

abbrev pub in_instr : Statement → Fault → Bool
in_instr statement kind = is_faulty two_cards (scope_after (header_lines ++ part_lines ++ instr_lines) two_cards) statement kind

-- an operand by its name
abbrev pub local_a : Word
local_a = Named (codes "a")

abbrev pub local_b : Word
local_b = Named (codes "b")

-- the scope of the adder's first ten lines, and with the eleventh: 1 a = GPR.r0 rs
abbrev pub after_ten : Scope
after_ten = scope_after (take 10 adder_statements) (adder_card ∷ [])

abbrev pub after_eleven : Scope
after_eleven =
    scope_with (adder_card ∷ []) after_ten (record { line = 11; statement = s.ReadFile 1 (codes "a") (codes "GPR") 0 (Named (codes "rs")) })
