-- What a stage does with a word: the lines that the word's instruction has in this stage, in their order. Every read sees the
-- storages as they are given; nothing is written yet, and the writes are told.
use Rattle.std.specs.Prelude.{ℕ, ◌+◌, ◌-◌, ◌*◌, ◌/◌, ◌%◌, ◌^◌, ◌==◌, if◌then◌else◌, Bool, List, [], ◌∷◌, ◌++◌, filter, filter_map, find, bit_and, Option, Some, None, option_map, option_to_list, slice_get, slice_index}
use Rattle.std.specs.List.{flat_map}
use Rattle.std.specs.Option.{option_map_or}
use Rattle.ap_bits.specs.Operations.{sign_extended}
use Rattle.ap_bits.specs.Cards.{operation_value}
use Rattle.ap_bits.specs.declared.card.Card.{Card}
use Rattle.ap_desc.specs.Designs.{field_value, arg_width, fields_of}
use Rattle.ap_desc.specs.declared.design.Design.{Design}
use Rattle.ap_desc.specs.declared.design.Unit.{Unit as Resource}
use Rattle.ap_desc.specs.declared.design.Field.{Field}
use Rattle.ap_desc.specs.declared.design.Instr.{Instr}
use Rattle.ap_desc.specs.declared.design.Micro.{Micro}
use Rattle.ap_desc.specs.declared.design.Arg.{Arg}
use Rattle.ap_desc.specs.declared.design.Arg.TheVariants as arg
use Rattle.ap_desc.specs.declared.design.Act.{Act}
use Rattle.ap_desc.specs.declared.design.Act.TheVariants as act
use Rattle.ap_model.specs.declared.state.StageEffect.{StageEffect}
use Rattle.ap_model.specs.declared.state.InputRead.{InputRead}
use Rattle.ap_model.specs.declared.storage.PortWrite.{PortWrite}
use Rattle.ap_model.specs.declared.storage.Storages.{Storages}
use Rattle.ap_model.specs.declared.storage.WritePort.TheVariants as port
use Rattle.ap_model.specs.Ports.{is_same_port, write_ports}
use Rattle.ap_model.specs.Stored.{reg_value, file_cell_value, word_value}

-- the word matches the instruction
abbrev pub is_match : ℕ → Instr → Bool
is_match word instr = bit_and word instr.fixed_mask == instr.fixed_value

-- the instruction that a word matches; nothing where it matches none
unfoldable pub instr_of : Design → ℕ → Option Instr
instr_of design word = find (is_match word) design.instrs

-- the lines of an instruction that stand in a stage
abbrev pub lines_in : ℕ → Instr → List Micro
lines_in stage instr = filter (λ (m : Micro). m.stage == stage) instr.micros

-- what a line can look at besides the locals: the design and its cards, the instruction, the word and its place, what is stored,
-- and what an input read takes, by its line and its port
pub record Sight : Type 0 where
  pub design : Design
  pub cards : List Card
  pub instr : Instr
  pub word : ℕ
  pub place : ℕ
  pub storages : Storages
  pub input : ℕ → ℕ → ℕ

-- the address after an instruction and its slots
abbrev pub link_of : Design → ℕ → ℕ
link_of design place = (place + 1 + design.slots) % 2 ^ design.address

-- the value of an operand, with these values of the locals
abbrev pub arg_value : Sight → List ℕ → Arg → ℕ
arg_value sight locals (arg.Local i) = slice_index locals i
arg_value sight locals (arg.Field i) = option_map_or (λ (f : Field). field_value f sight.word) (slice_get (fields_of sight.design sight.instr) i) 0
arg_value sight locals arg.Pc = sight.place
arg_value sight locals arg.Link = link_of sight.design sight.place

-- the bits of an operand
abbrev pub bits_of_arg : Sight → Arg → ℕ
bits_of_arg sight a = arg_width sight.design sight.instr.locals (fields_of sight.design sight.instr) a

-- what an operation of a unit gives: the value of its kind's card
unfoldable pub unit_value : Design → List Card → ℕ → ℕ → ℕ → ℕ → ℕ
unit_value design cards unit op a b =
    option_map_or (λ (u : Resource). option_map_or (λ (card : Card). operation_value card u.width op a b) (slice_get cards u.kind) 0) (slice_get design.units unit) 0

-- what a line assigns to the next local, if it assigns one; value gives the value of each operand
abbrev pub act_value : Sight → (Arg → ℕ) → ℕ → Act → Option ℕ
act_value sight value line (act.Compute unit op a b) = Some (unit_value sight.design sight.cards unit op (value a) (value b))
act_value sight value line (act.ReadFile file number index) = Some (file_cell_value sight.storages file (value index))
act_value sight value line (act.ReadReg reg) = Some (reg_value sight.storages reg)
act_value sight value line (act.ReadMem mem at) = Some (word_value sight.storages mem (value at))
act_value sight value line (act.ReadIn input) = Some (sight.input line input)
act_value sight value line (act.Const width number) = Some number
act_value sight value line (act.Zext width a) = Some (value a)
act_value sight value line (act.Sext width a) = Some (sign_extended (value a) (bits_of_arg sight a) width)
act_value sight value line (act.Slice high low a) = Some ((value a / 2 ^ low) % 2 ^ (high - low + 1))
act_value sight value line (act.Cat a b) = Some (value a * 2 ^ bits_of_arg sight b + value b)
act_value sight value line _ = None

-- the locals after these lines
unfoldable pub locals_after : Sight → List ℕ → List Micro → List ℕ
locals_after sight locals [] = locals
locals_after sight locals (m ∷ micros) = locals_after sight (locals ++ option_to_list (act_value sight (arg_value sight locals) m.line m.act)) micros

-- where the guard is absent or 1
abbrev pub where_guard : {X : Type 0} → (Arg → ℕ) → Option Arg → X → Option X
where_guard value None x = Some x
where_guard value (Some g) x = if value g == 1 then Some x else None

-- what a line writes, if it writes
abbrev pub write_of : (Arg → ℕ) → Act → Option PortWrite
write_of value (act.WriteFile file number index v guard) = where_guard value guard (record { port = port.Cell file number; at = value index; value = value v })
write_of value (act.WriteReg reg v guard) = where_guard value guard (record { port = port.Register reg; at = 0; value = value v })
write_of value (act.WriteMem mem at v guard) = where_guard value guard (record { port = port.Memory mem; at = value at; value = value v })
write_of value _ = None

-- the target of the transfer that a line takes, if it takes one: a branch where its condition is 1, a jump always
abbrev pub target_of : (Arg → ℕ) → Act → Option ℕ
target_of value (act.Branch cond target) = if value cond == 1 then Some (value target) else None
target_of value (act.Jump target) = Some (value target)
target_of value _ = None

-- the port that an input read reads
abbrev pub input_of : Act → Option ℕ
input_of (act.ReadIn port) = Some port
input_of _ = None

-- what an input read takes
abbrev pub read_of : (ℕ → ℕ → ℕ) → Micro → Option InputRead
read_of input micro = option_map (λ port. record { line = micro.line; value = input micro.line port }) (input_of micro.act)

-- the writes by port, in the order of the writes of one stage
abbrev pub ordered : Design → List PortWrite → List PortWrite
ordered design writes = flat_map (λ port. filter (λ (w : PortWrite). is_same_port port w.port) writes) (write_ports design)

-- what these lines do: the locals after them, what their input reads take, the target of the transfer, and the writes. A local is
-- assigned once, so its value after the lines is the one that each line sees
abbrev pub lines_effect : Sight → List ℕ → List Micro → StageEffect
lines_effect sight locals micros =
    let after = locals_after sight locals micros in
    let value = arg_value sight after in
    record {
      locals = after;
      reads = filter_map (read_of sight.input) micros;
      target = slice_get (filter_map (λ (m : Micro). target_of value m.act) micros) 0;
      writes = ordered sight.design (filter_map (λ (m : Micro). write_of value m.act) micros);
    }

-- what the instruction of a word does; nothing where the word matches none
abbrev pub instr_effect : Design → List Card → ℕ → ℕ → ℕ → List ℕ → Storages → (ℕ → ℕ → ℕ) → Option Instr → StageEffect
instr_effect design cards stage place word locals storages input None = record { locals = locals; reads = []; target = None; writes = [] }
instr_effect design cards stage place word locals storages input (Some instr) =
    lines_effect (record { design = design; cards = cards; instr = instr; word = word; place = place; storages = storages; input = input }) locals (lines_in stage instr)

-- what a stage does with the word of a place, whose instruction has these locals, on these storages. An input read takes what
-- input gives for its line and its port
unfoldable pub fire : Design → List Card → ℕ → ℕ → ℕ → List ℕ → Storages → (ℕ → ℕ → ℕ) → StageEffect
fire design cards stage place word locals storages input = instr_effect design cards stage place word locals storages input (instr_of design word)
