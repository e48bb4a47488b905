-- What the plain program's lines look at, as the definitions have it.
use Rattle.std.specs.Prelude.{ℕ, IsTrue, List, slice_index}
use Rattle.ap_desc.specs.Widths.{has_widths}
use Rattle.ap_desc.specs.declared.design.Act.{Act}
use Rattle.ap_desc.specs.declared.design.Arg.{Arg}
use Rattle.ap_desc.specs.declared.design.Micro.{Micro}
use Rattle.ap_plain.specs.declared.values.View.{View}
use Rattle.ap_model.specs.Fire.{Sight, arg_value, bits_of_arg, lines_in}
use Rattle.ap_model.specs.Fitting.{LocalsStand}

abbrev pub sight_of : View → Sight
sight_of view = record {
  design = view.design.now;
  cards = view.cards.now;
  instr = view.instr.now;
  word = view.word;
  place = view.place;
  storages = view.storages.now;
  input = λ line input. slice_index view.ports.now input;
}

-- the value and the bits of an operand
abbrev pub operand_value : View → List ℕ → Arg → ℕ
operand_value view locals a = arg_value (sight_of view) locals a

abbrev pub operand_bits : View → Arg → ℕ
operand_bits view a = bits_of_arg (sight_of view) a

-- the lines of the instruction that stand in a stage
abbrev pub stage_lines : View → ℕ → List Micro
stage_lines view stage = lines_in stage view.instr.now

-- what the line does has the widths that it needs
abbrev pub HasWidths : View → Act → Type 0
HasWidths view a = IsTrue (has_widths view.design.now (bits_of_arg (sight_of view)) a)

-- the instruction comes to a stage with the locals of the earlier ones
abbrev pub StandIn : View → ℕ → List ℕ → Type 0
StandIn view stage locals = LocalsStand view.design.now view.instr.now stage locals
