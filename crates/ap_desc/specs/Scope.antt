-- What a line may name: all that the lines before it declare.
use Rattle.std.specs.Prelude.{ℕ, List, [], ◌∷◌, ◌++◌, map, if◌then◌else◌, option_and_then, option_to_list}
use Rattle.ap_bits.specs.declared.card.Card.{Card}
use Rattle.ap_desc.specs.declared.description.Numbered.{Numbered}
use Rattle.ap_desc.specs.declared.design.Design.{Design}
use Rattle.ap_desc.specs.declared.design.Field.{Field}
use Rattle.ap_desc.specs.declared.statement.Statement.{Statement}
use Rattle.ap_desc.specs.declared.statement.Statement.TheVariants as s
use Rattle.ap_desc.specs.Declarations.{declarations, reg_said, file_said, mem_said, input_said, unit_said, format_said}
use Rattle.ap_desc.specs.Designs.{local_width, widths_of}
use Rattle.ap_desc.specs.Instructions.{Block, act_of, arg_of, assigned_name, blocks_of, local_names, micros_of}
use Rattle.ap_desc.specs.Order.{is_micro}
use Rattle.ap_desc.specs.Parts.{fields_named}

-- the declarations so far, the instructions so far, and of the instruction that began last the fields of its format, and its
-- locals with their widths
pub record Scope : Type 0 where
  pub design : Design
  pub instrs : List (List ℕ)
  pub fields : List Field
  pub locals : List (List ℕ)
  pub widths : List ℕ

-- the fields of the format of the instruction that began last
abbrev pub open_fields : Design → List Block → List Field
open_fields design [] = []
open_fields design (b ∷ blocks) = fields_named design b.format

-- its lines so far
abbrev pub open_lines : List Block → List Numbered
open_lines [] = []
open_lines (b ∷ blocks) = b.lines

-- what a line after these may name
abbrev pub scope_after : List Numbered → List Card → Scope
scope_after before cards =
    let design = declarations before cards in
    let blocks = blocks_of before in
    let fields = open_fields design blocks in
    let lines = open_lines blocks in
    record {
      design = design;
      instrs = map (λ (b : Block). b.name) blocks;
      fields = fields;
      locals = local_names lines;
      widths = widths_of design fields (micros_of cards design fields lines);
    }

-- the design with what a statement at this line declares
abbrev pub with_declared : List Card → ℕ → Statement → Design → Design
with_declared cards line (s.Stages count) d = record d { stages = count }
with_declared cards line (s.Address bits) d = record d { address = bits }
with_declared cards line (s.Word bits) d = record d { word = bits }
with_declared cards line (s.Transfer stage slots) d = record d { branch = stage; slots = slots; transfer_line = line }
with_declared cards line (s.Reg name width reset) d = record d { regs = d.regs ++ option_to_list (reg_said (s.Reg name width reset)) }
with_declared cards line (s.File name width cells reads writes) d = record d { files = d.files ++ option_to_list (file_said (s.File name width cells reads writes)) }
with_declared cards line (s.Mem name address width) d = record d { mems = d.mems ++ option_to_list (mem_said (s.Mem name address width)) }
with_declared cards line (s.In name width) d = record d { inputs = d.inputs ++ option_to_list (input_said (s.In name width)) }
with_declared cards line (s.Unit name kind width) d = record d { units = d.units ++ option_to_list (unit_said cards (s.Unit name kind width)) }
with_declared cards line (s.Format name fields) d = record d { formats = d.formats ++ option_to_list (format_said line (s.Format name fields)) }
with_declared cards line _ d = d

-- the scope with a micro-operation: its local, if it assigns one, and the local's width
abbrev pub with_micro : List Card → Scope → Statement → Scope
with_micro cards scope statement =
    let act = act_of cards scope.design (arg_of scope.fields scope.locals) statement in
    record scope {
      locals = scope.locals ++ assigned_name statement;
      widths = scope.widths ++ option_to_list (option_and_then (local_width scope.design scope.widths scope.fields) act);
    }

-- the scope with another statement: an instruction begins, or something is declared
abbrev pub with_outer : List Card → Scope → ℕ → Statement → Scope
with_outer cards scope line (s.Instr name format fixed) = record {
  design = scope.design;
  instrs = name ∷ scope.instrs;
  fields = fields_named scope.design format;
  locals = [];
  widths = [];
}
with_outer cards scope line statement = record scope { design = with_declared cards line statement scope.design }

-- the scope after one more line
abbrev pub scope_with : List Card → Scope → Numbered → Scope
scope_with cards scope n =
    if is_micro n.statement then with_micro cards scope n.statement else with_outer cards scope n.line n.statement
