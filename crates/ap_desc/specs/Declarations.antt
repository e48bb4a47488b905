-- What the statements before the instructions declare: the header's numbers, the parts and the formats, each in order.
use Rattle.std.specs.Prelude.{ℕ, List, [], ◌∷◌, sum_by, Option, Some, None}
use Rattle.std.specs.List.{filter_map}
use Rattle.std.specs.Option.{option_map_or}
use Rattle.ap_bits.specs.Cards.{latency_at}
use Rattle.ap_bits.specs.declared.card.Card.{Card}
use Rattle.ap_desc.specs.declared.description.Numbered.{Numbered}
use Rattle.ap_desc.specs.declared.statement.FieldNumber.{FieldNumber}
use Rattle.ap_desc.specs.declared.statement.Statement.{Statement}
use Rattle.ap_desc.specs.declared.statement.Statement.TheVariants as s
use Rattle.ap_desc.specs.declared.design.Design.{Design}
use Rattle.ap_desc.specs.declared.design.Reg.{Reg}
use Rattle.ap_desc.specs.declared.design.File.{File}
use Rattle.ap_desc.specs.declared.design.Mem.{Mem}
use Rattle.ap_desc.specs.declared.design.InPort.{InPort}
use Rattle.ap_desc.specs.declared.design.Unit.{Unit as Resource}
use Rattle.ap_desc.specs.declared.design.Format.{Format}
use Rattle.ap_desc.specs.declared.design.Field.{Field}
use Rattle.ap_desc.specs.Parts.{place_of, kind_names, card_named}

-- the number of each header statement
abbrev pub stages_said : Statement → Option ℕ
stages_said (s.Stages count) = Some count
stages_said _ = None

abbrev pub address_said : Statement → Option ℕ
address_said (s.Address bits) = Some bits
address_said _ = None

abbrev pub word_said : Statement → Option ℕ
word_said (s.Word bits) = Some bits
word_said _ = None

-- the stage and the slots of transfers, and the line that says them
abbrev pub branch_said : Statement → Option ℕ
branch_said (s.Transfer stage slots) = Some stage
branch_said _ = None

abbrev pub slots_said : Statement → Option ℕ
slots_said (s.Transfer stage slots) = Some slots
slots_said _ = None

abbrev pub transfer_line_said : ℕ → Statement → Option ℕ
transfer_line_said line (s.Transfer stage slots) = Some line
transfer_line_said line _ = None

-- the part that a statement declares
abbrev pub reg_said : Statement → Option Reg
reg_said (s.Reg name width reset) = Some (record { name = name; width = width; reset = reset })
reg_said _ = None

abbrev pub file_said : Statement → Option File
file_said (s.File name width cells reads writes) = Some (record { name = name; width = width; cells = cells; reads = reads; writes = writes })
file_said _ = None

abbrev pub mem_said : Statement → Option Mem
mem_said (s.Mem name address width) = Some (record { name = name; address = address; width = width })
mem_said _ = None

abbrev pub input_said : Statement → Option InPort
input_said (s.In name width) = Some (record { name = name; width = width })
input_said _ = None

-- a unit's kind is the place of its card on the shelf, and its latency that of the card at its width
abbrev pub unit_said : List Card → Statement → Option Resource
unit_said cards (s.Unit name kind width) =
    Some (record { name = name; kind = place_of (kind_names cards) kind; width = width; latency = option_map_or (λ c. latency_at c width) (card_named cards kind) 0 })
unit_said cards _ = None

-- the fields of a format: each lies above those after it
abbrev pub fields_said : List FieldNumber → List Field
fields_said [] = []
fields_said (f ∷ fields) = record { name = f.field; width = f.number; low = sum_by (λ (x : Field). x.width) (fields_said fields) } ∷ fields_said fields

abbrev pub format_said : ℕ → Statement → Option Format
format_said line (s.Format name fields) = Some (record { name = name; line = line; fields = fields_said fields })
format_said line _ = None

-- all that the statements say of one sort, in order
abbrev pub all_said : {X : Type 0} → (Statement → Option X) → List Numbered → List X
all_said said statements = filter_map (λ n. said n.statement) statements

-- the same where the line is part of it
abbrev pub all_said_at : {X : Type 0} → (ℕ → Statement → Option X) → List Numbered → List X
all_said_at said statements = filter_map (λ n. said n.line n.statement) statements

-- the first number, or 0 where there is none
abbrev pub first_number : List ℕ → ℕ
first_number [] = 0
first_number (n ∷ ns) = n

-- the design of the statements without its instructions
abbrev pub declarations : List Numbered → List Card → Design
declarations statements cards = record {
  stages = first_number (all_said stages_said statements);
  address = first_number (all_said address_said statements);
  word = first_number (all_said word_said statements);
  branch = first_number (all_said branch_said statements);
  slots = first_number (all_said slots_said statements);
  transfer_line = first_number (all_said_at transfer_line_said statements);
  regs = all_said reg_said statements;
  files = all_said file_said statements;
  mems = all_said mem_said statements;
  inputs = all_said input_said statements;
  units = all_said (unit_said cards) statements;
  formats = all_said_at format_said statements;
  instrs = [];
}
