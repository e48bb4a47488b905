-- The faults of widths: a number is outside its limits, an operand hasn't the width that is needed, a constant doesn't fit. Each is
-- a test of a statement in the scope of the lines before it. The limits and the rules are the project's own.
use Rattle.std.specs.Prelude.{ℕ, ◌&&◌, ◌||◌, not, Bool, false, List}
use Rattle.std.specs.List.{list_any}
use Rattle.std.specs.Option.{option_map_or}
use Rattle.ap_bits.specs.Cards.{allows}
use Rattle.ap_bits.specs.declared.card.Card.{Card}
use Rattle.ap_desc.specs.declared.statement.FieldNumber.{FieldNumber}
use Rattle.ap_desc.specs.declared.statement.Statement.{Statement}
use Rattle.ap_desc.specs.declared.statement.Statement.TheVariants as s
use Rattle.ap_desc.specs.declared.design.Arg.{Arg}
use Rattle.ap_desc.specs.declared.design.Act.{Act}
use Rattle.ap_desc.specs.Designs.{is_width, is_stage_count, is_address_width, is_word_width, is_transfer_stage, is_slot_count, is_file_shape, is_mem_shape, is_field_width, is_stage, has_bits, arg_width}
use Rattle.ap_desc.specs.Instructions.{act_of, arg_of, stage_of}
use Rattle.ap_desc.specs.Order.{is_micro}
use Rattle.ap_desc.specs.Parts.{card_named}
use Rattle.ap_desc.specs.Scope.{Scope}
use Rattle.ap_desc.specs.Widths as w

-- the width of an operand of a line
abbrev pub width_in : Scope → Arg → ℕ
width_in scope a = arg_width scope.design scope.widths scope.fields a

-- the test holds of what the statement does, where it is a micro-operation
abbrev pub does : List Card → Scope → (Act → Bool) → Statement → Bool
does cards scope test statement = option_map_or test (act_of cards scope.design (arg_of scope.fields scope.locals) statement) false

-- the stage of a micro-operation is beyond the last
abbrev pub is_beyond : Scope → Statement → Bool
is_beyond scope statement = is_micro statement && not (is_stage scope.design.stages (stage_of statement))

-- a number of the statement is outside its limits
abbrev pub is_out_of_range : List Card → Scope → Statement → Bool
is_out_of_range cards scope (s.Stages count) = not (is_stage_count count)
is_out_of_range cards scope (s.Address bits) = not (is_address_width bits)
is_out_of_range cards scope (s.Word bits) = not (is_word_width bits)
is_out_of_range cards scope (s.Transfer stage slots) = not (is_transfer_stage scope.design.stages stage && is_slot_count slots)
is_out_of_range cards scope (s.Reg name width reset) = not (is_width width)
is_out_of_range cards scope (s.File name width cells reads writes) = not (is_file_shape width cells reads writes)
is_out_of_range cards scope (s.Mem name address width) = not (is_mem_shape address width)
is_out_of_range cards scope (s.In name width) = not (is_width width)
is_out_of_range cards scope (s.Unit name kind width) = not (is_width width)
is_out_of_range cards scope (s.Format name fields) = list_any (λ (f : FieldNumber). not (is_field_width scope.design.word f.number)) fields
is_out_of_range cards scope statement = is_beyond scope statement || does cards scope (w.has_bad_width (width_in scope)) statement

-- an operand of the line hasn't the width that is needed
abbrev pub is_different : List Card → Scope → Statement → Bool
is_different cards scope statement = does cards scope (w.differs scope.design (width_in scope)) statement

-- the line is a slice that its operand hasn't
abbrev pub is_no_slice : List Card → Scope → Statement → Bool
is_no_slice cards scope statement = does cards scope (w.is_bad_slice (width_in scope)) statement

-- a register's value at the start or a constant doesn't fit
abbrev pub is_too_wide : List Card → Scope → Statement → Bool
is_too_wide cards scope (s.Reg name width reset) = not (has_bits width reset)
is_too_wide cards scope statement = does cards scope w.is_wide_constant statement

-- a guard or condition of the line hasn't one bit
abbrev pub is_wide_test : List Card → Scope → Statement → Bool
is_wide_test cards scope statement = does cards scope (w.is_not_one_bit (width_in scope)) statement

-- a target of the line isn't as wide as a code address
abbrev pub is_off_target : List Card → Scope → Statement → Bool
is_off_target cards scope statement = does cards scope (w.is_no_target scope.design (width_in scope)) statement

-- the unit's kind doesn't allow its width
abbrev pub is_refused : List Card → Statement → Bool
is_refused cards (s.Unit name kind width) = option_map_or (λ (card : Card). not (allows card.widths width)) (card_named cards kind) false
is_refused cards _ = false
